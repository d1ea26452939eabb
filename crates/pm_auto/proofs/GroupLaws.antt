-- The places of a state by their types.
use Rattle.std.proofs.Common.{◌≡◌, ℕ, zero, suc, ◌+◌, ◌<◌, List, [], ◌∷◌, ◌++◌, length, take, drop, get_or, set, ◌≤◌, ◌⊎◌, inl, inr, Bool, true, false, ◌||◌, cond, eqb, eq-eqb, refl, ap, sym, ◌∙◌, subst, arith, add-one, append_assoc, get_or-set_same, get_or-set_other}
use Rattle.std.proofs.Math.Seq.{drop-cons}
use Rattle.std.proofs.lemmas.Bool.{cases_eq, eqb-true}
use Rattle.pm_auto.specs.declared.places.Row.{Row}
use Rattle.pm_auto.specs.declared.sets.PlaceSet.{PlaceSet}
use Rattle.pm_auto.specs.declared.groups.Groups.{Groups}
use Rattle.pm_auto.specs.Runs.{look, next_rows, end_rows}
use Rattle.pm_auto.specs.States.{has, in_order, step, kinds, once, Below}
use Rattle.pm_auto.specs.Table.{some}
use Rattle.pm_auto.specs.Groups.{place_of, twin_of, of_kind, Are_twins, Are_groups}
use Rattle.pm_auto.proofs.SetLaws.{or-false, has-append, look-get}

-- the first row of a type that some row has
pub place-at : (rs : List Row) (k p : ℕ) → p < length rs → (look rs p).kind ≡ k → (place_of k rs < length rs) × ((look rs (place_of k rs)).kind ≡ k)
place-at [] k p l e = absurd (omega arith)
place-at (r ∷ rs) k p l e = at (eqb r.kind k) refl p l e (λ q m f. place-at rs k q m f)
  where
    at : (b : Bool) → eqb r.kind k ≡ b → (p : ℕ) → p < suc (length rs) → (look (r ∷ rs) p).kind ≡ k
        → ((q : ℕ) → q < length rs → (look rs q).kind ≡ k → (place_of k rs < length rs) × ((look rs (place_of k rs)).kind ≡ k))
        → (cond b zero (suc (place_of k rs)) < suc (length rs)) × ((look (r ∷ rs) (cond b zero (suc (place_of k rs)))).kind ≡ k)
    at true h p l e f = (omega arith, eqb-true r.kind k h)
    at false h zero l e f = absurd (let x : true ≡ false = sym (eq-eqb r.kind k e) ∙ h in cc)
    at false h (suc p) l e f = let q = f p (omega arith) e in ((let n = q.0 in omega (arith, n)), q.1)

pub twin-inside : (rs : List Row) (p : ℕ) → p < length rs → twin_of rs p < length rs
twin-inside rs p l = (place-at rs (look rs p).kind p l refl).0

pub twin-kind : (rs : List Row) (p q : ℕ) → p < length rs → q < length rs → twin_of rs p ≡ twin_of rs q → (look rs p).kind ≡ (look rs q).kind
twin-kind rs p q l m e = sym ((place-at rs (look rs p).kind p l refl).1) ∙ ap (λ n. (look rs n).kind) e ∙ (place-at rs (look rs q).kind q m refl).1

-- what follows the places of a type, and whether one may be the last
pub next-of-kind : (rs : List Row) (k : ℕ) (ns : List ℕ) → next_rows rs k (of_kind rs k ns) ≡ next_rows rs k ns
next-of-kind rs k [] = refl
next-of-kind rs k (n ∷ ns) = at (eqb (look rs n).kind k) refl (next-of-kind rs k ns)
  where
    at : (b : Bool) → eqb (look rs n).kind k ≡ b → next_rows rs k (of_kind rs k ns) ≡ next_rows rs k ns → next_rows rs k (cond b (n ∷ of_kind rs k ns) (of_kind rs k ns)) ≡ next_rows rs k (n ∷ ns)
    at true e h = rw h refl
    at false e h = h ∙ rw e refl

pub end-of-kind : (rs : List Row) (k : ℕ) (ns : List ℕ) → end_rows rs k (of_kind rs k ns) ≡ end_rows rs k ns
end-of-kind rs k [] = refl
end-of-kind rs k (n ∷ ns) = at (eqb (look rs n).kind k) refl (end-of-kind rs k ns)
  where
    at : (b : Bool) → eqb (look rs n).kind k ≡ b → end_rows rs k (of_kind rs k ns) ≡ end_rows rs k ns → end_rows rs k (cond b (n ∷ of_kind rs k ns) (of_kind rs k ns)) ≡ end_rows rs k (n ∷ ns)
    at true e h = rw h refl
    at false e h = h ∙ rw e refl

pub below-of-kind : (rs : List Row) (k m : ℕ) (ns : List ℕ) → Below m ns → Below m (of_kind rs k ns)
below-of-kind rs k m [] b = tt
below-of-kind rs k m (n ∷ ns) b = at (eqb (look rs n).kind k) (below-of-kind rs k m ns b.1)
  where
    at : (c : Bool) → Below m (of_kind rs k ns) → Below m (cond c (n ∷ of_kind rs k ns) (of_kind rs k ns))
    at true h = (b.0, h)
    at false h = h

pub below-end : (m : ℕ) (ns : List ℕ) (n : ℕ) → Below m ns → n < m → Below m (ns ++ n ∷ [])
below-end m [] n b l = (l, tt)
below-end m (x ∷ ns) n b l = (b.0, below-end m ns n b.1 l)

pub below-look : (m : ℕ) (ns : List ℕ) (i : ℕ) → i < length ns → Below m ns → get_or ns i 0 < m
below-look m [] i l b = absurd (omega arith)
below-look m (n ∷ ns) zero l b = b.0
below-look m (n ∷ ns) (suc i) l b = below-look m ns i (omega arith) b.1

pub kinds-look : (rs : List Row) (ns : List ℕ) (i : ℕ) → i < length ns → get_or (kinds rs ns) i 0 ≡ (look rs (get_or ns i 0)).kind
kinds-look rs [] i l = absurd (omega arith)
kinds-look rs (n ∷ ns) zero l = refl
kinds-look rs (n ∷ ns) (suc i) l = kinds-look rs ns i (omega arith)

pub kinds-length : (rs : List Row) (ns : List ℕ) → length (kinds rs ns) ≡ length ns
kinds-length rs [] = refl
kinds-length rs (n ∷ ns) = ap suc (kinds-length rs ns)

kinds-end : (rs : List Row) (ns : List ℕ) (n : ℕ) → kinds rs (ns ++ n ∷ []) ≡ kinds rs ns ++ (look rs n).kind ∷ []
kinds-end rs [] n = refl
kinds-end rs (x ∷ ns) n = ap (λ z. (look rs x).kind ∷ z) (kinds-end rs ns n)

some-end : (x : List ℕ) (n : ℕ) → some (x ++ n ∷ []) ≡ true
some-end [] n = refl
some-end (y ∷ x) n = refl

pub some-not : (x : List ℕ) → (x ≡ [] → ⊥) → some x ≡ true
some-not [] h = absurd (h refl)
some-not (y ∷ x) h = refl

-- one place more
module _ (rs : List Row) (ps : List ℕ) (i : ℕ) (l : i < length ps) (b : Below (length rs) (drop i ps)) (ls : List (List ℕ)) (full : length ls ≡ length rs) where
  here : drop i ps ≡ get_or ps i 0 ∷ drop (i + 1) ps
  here = drop-cons ps i 0 l ∙ rw add-one refl

  within : (get_or ps i 0) < length rs
  within = (subst (Below (length rs)) here b).0

  new-at : (r : ℕ) → r < length rs → get_or (set ls (twin_of rs (get_or ps i 0)) (get_or ls (twin_of rs (get_or ps i 0)) [] ++ (get_or ps i 0) ∷ [])) (twin_of rs r) [] ≡ cond (eqb (look rs (get_or ps i 0)).kind (look rs r).kind) (get_or ls (twin_of rs r) [] ++ (get_or ps i 0) ∷ []) (get_or ls (twin_of rs r) [])
  new-at r h = at (eqb (look rs (get_or ps i 0)).kind (look rs r).kind) refl
    where
      at : (c : Bool) → eqb (look rs (get_or ps i 0)).kind (look rs r).kind ≡ c → get_or (set ls (twin_of rs (get_or ps i 0)) (get_or ls (twin_of rs (get_or ps i 0)) [] ++ (get_or ps i 0) ∷ [])) (twin_of rs r) [] ≡ cond c (get_or ls (twin_of rs r) [] ++ (get_or ps i 0) ∷ []) (get_or ls (twin_of rs r) [])
      at true e =
          let s : twin_of rs r ≡ twin_of rs (get_or ps i 0) = ap (λ j. place_of j rs) (sym (eqb-true (look rs (get_or ps i 0)).kind (look rs r).kind e)) in
          let inside : twin_of rs (get_or ps i 0) < length ls = let n = twin-inside rs (get_or ps i 0) within in omega (arith, n, full) in
          ap (λ x. get_or (set ls (twin_of rs (get_or ps i 0)) (get_or ls (twin_of rs (get_or ps i 0)) [] ++ (get_or ps i 0) ∷ [])) x []) s ∙ get_or-set_same ls (twin_of rs (get_or ps i 0)) (get_or ls (twin_of rs (get_or ps i 0)) [] ++ (get_or ps i 0) ∷ []) [] inside ∙ ap (λ x. get_or ls x [] ++ (get_or ps i 0) ∷ []) (sym s)
      at false e = get_or-set_other ls (twin_of rs (get_or ps i 0)) (twin_of rs r) (get_or ls (twin_of rs (get_or ps i 0)) [] ++ (get_or ps i 0) ∷ []) []
          (λ s. let x : true ≡ false = sym (eq-eqb (look rs (get_or ps i 0)).kind (look rs r).kind (sym (twin-kind rs r (get_or ps i 0) h within s))) ∙ e in absurd (cc))

  join : (c : Bool) (xs ys : List ℕ) → xs ++ cond c ((get_or ps i 0) ∷ ys) ys ≡ cond c (xs ++ (get_or ps i 0) ∷ []) xs ++ ys
  join true xs ys = sym (append_assoc xs ((get_or ps i 0) ∷ []) ys)
  join false xs ys = refl

  pub lists-on : (r : ℕ) → r < length rs → (all : List ℕ) → all ≡ get_or ls (twin_of rs r) [] ++ of_kind rs (look rs r).kind (drop i ps) → all ≡ get_or (set ls (twin_of rs (get_or ps i 0)) (get_or ls (twin_of rs (get_or ps i 0)) [] ++ (get_or ps i 0) ∷ [])) (twin_of rs r) [] ++ of_kind rs (look rs r).kind (drop (i + 1) ps)
  lists-on r h all e =
      e
      ∙ ap (λ z. get_or ls (twin_of rs r) [] ++ of_kind rs (look rs r).kind z) here
      ∙ join (eqb (look rs (get_or ps i 0)).kind (look rs r).kind) (get_or ls (twin_of rs r) []) (of_kind rs (look rs r).kind (drop (i + 1) ps))
      ∙ ap (λ z. z ++ of_kind rs (look rs r).kind (drop (i + 1) ps)) (sym (new-at r h))

  module _ (hs : List ℕ) (seen : (r : ℕ) → r < length rs → has (look rs r).kind (kinds rs hs) ≡ some (get_or ls (twin_of rs r) [])) where
    mix : (c : Bool) (x : List ℕ) (a : Bool) → a ≡ some x → a || (c || false) ≡ some (cond c (x ++ (get_or ps i 0) ∷ []) x)
    mix true x true e = sym (some-end x (get_or ps i 0))
    mix true x false e = sym (some-end x (get_or ps i 0))
    mix false x a e = or-false a ∙ e

    pub seen-new : (r : ℕ) → r < length rs → has (look rs r).kind (kinds rs (hs ++ (get_or ps i 0) ∷ [])) ≡ some (get_or (set ls (twin_of rs (get_or ps i 0)) (get_or ls (twin_of rs (get_or ps i 0)) [] ++ (get_or ps i 0) ∷ [])) (twin_of rs r) [])
    seen-new r h =
        ap (has (look rs r).kind) (kinds-end rs hs (get_or ps i 0))
        ∙ has-append (look rs r).kind (kinds rs hs) ((look rs (get_or ps i 0)).kind ∷ [])
        ∙ mix (eqb (look rs (get_or ps i 0)).kind (look rs r).kind) (get_or ls (twin_of rs r) []) (has (look rs r).kind (kinds rs hs)) (seen r h)
        ∙ ap some (sym (new-at r h))

    pub seen-old : some (get_or ls (twin_of rs (get_or ps i 0)) []) ≡ true → (r : ℕ) → r < length rs → has (look rs r).kind (kinds rs hs) ≡ some (get_or (set ls (twin_of rs (get_or ps i 0)) (get_or ls (twin_of rs (get_or ps i 0)) [] ++ (get_or ps i 0) ∷ [])) (twin_of rs r) [])
    seen-old g r h = at (eqb (look rs (get_or ps i 0)).kind (look rs r).kind) refl ∙ ap some (sym (new-at r h))
      where
        at : (c : Bool) → eqb (look rs (get_or ps i 0)).kind (look rs r).kind ≡ c → has (look rs r).kind (kinds rs hs) ≡ some (cond c (get_or ls (twin_of rs r) [] ++ (get_or ps i 0) ∷ []) (get_or ls (twin_of rs r) []))
        at true e = ap (λ j. has j (kinds rs hs)) (sym (eqb-true (look rs (get_or ps i 0)).kind (look rs r).kind e)) ∙ seen (get_or ps i 0) within ∙ g ∙ sym (some-end (get_or ls (twin_of rs r) []) (get_or ps i 0))
        at false e = seen r h

    pub heads-new : (all : List ℕ) → all ≡ kinds rs hs ++ once (kinds rs hs) (kinds rs (drop i ps)) → get_or ls (twin_of rs (get_or ps i 0)) [] ≡ [] → all ≡ kinds rs (hs ++ (get_or ps i 0) ∷ []) ++ once (kinds rs (hs ++ (get_or ps i 0) ∷ [])) (kinds rs (drop (i + 1) ps))
    heads-new all e g =
        let no : has (look rs (get_or ps i 0)).kind (kinds rs hs) ≡ false = seen (get_or ps i 0) within ∙ ap some g in
        e ∙ rw (kinds-end rs hs (get_or ps i 0), here, no) (sym (append_assoc (kinds rs hs) ((look rs (get_or ps i 0)).kind ∷ []) (once (kinds rs hs ++ (look rs (get_or ps i 0)).kind ∷ []) (kinds rs (drop (i + 1) ps)))))

    pub heads-old : (all : List ℕ) → all ≡ kinds rs hs ++ once (kinds rs hs) (kinds rs (drop i ps)) → some (get_or ls (twin_of rs (get_or ps i 0)) []) ≡ true → all ≡ kinds rs hs ++ once (kinds rs hs) (kinds rs (drop (i + 1) ps))
    heads-old all e g =
        let yes : has (look rs (get_or ps i 0)).kind (kinds rs hs) ≡ true = seen (get_or ps i 0) within ∙ g in
        e ∙ rw (here, yes) refl

-- for one row more its twin
pub number-front : (t : List ℕ) (x p : ℕ) → p < length t → get_or (t ++ x ∷ []) p 0 ≡ get_or t p 0
number-front [] x p h = absurd (omega arith)
number-front (y ∷ t) x zero h = refl
number-front (y ∷ t) x (suc p) h = number-front t x p (omega arith)

pub number-last : (t : List ℕ) (x : ℕ) → get_or (t ++ x ∷ []) (length t) 0 ≡ x
number-last [] x = refl
number-last (y ∷ t) x = number-last t x

pub twins-more : (rs : List Row) (ts : List ℕ) (i x : ℕ) (r : Row) → length ts ≡ i → i < length rs → r ≡ get_or rs i r → x ≡ place_of r.kind rs
    → ((p : ℕ) → p < i → get_or ts p 0 ≡ twin_of rs p) → (p : ℕ) → p < i + 1 → get_or (ts ++ x ∷ []) p 0 ≡ twin_of rs p
twins-more rs ts i x r len l is e old p h = at (cases_eq p i)
  where
    at : (p ≡ i) ⊎ (p ≡ i → ⊥) → get_or (ts ++ x ∷ []) p 0 ≡ twin_of rs p
    at (inl q) =
        let row : look rs p ≡ r = ap (look rs) q ∙ look-get rs i r l is in
        ap (λ n. get_or (ts ++ x ∷ []) n 0) (q ∙ sym len) ∙ number-last ts x ∙ e ∙ ap (λ (z : Row). place_of z.kind rs) (sym row)
    at (inr o) = number-front ts x p (omega (arith, len)) ∙ old p (omega arith)

pub take-zero : (xs : List ℕ) → ◌≡◌ {A = List ℕ} (take 0 xs) []
take-zero [] = refl
take-zero (x ∷ xs) = refl

pub take-past : (xs : List ℕ) (i : ℕ) → length xs ≤ i → take i xs ≡ xs
take-past [] zero h = refl
take-past [] (suc i) h = refl
take-past (x ∷ xs) zero h = absurd (omega arith)
take-past (x ∷ xs) (suc i) h = ap (λ z. x ∷ z) (take-past xs i (omega arith))

two : (rs : List Row) (a b : List ℕ) (c d : Bool) → a ≡ b → c ≡ d → ◌≡◌ {A = PlaceSet} record { places = in_order a 0 rs; ends = c } record { places = in_order b 0 rs; ends = d }
two rs a b c d e f = rw (e, f) refl

-- the head of a group, and its places
module _ (rs : List Row) (ns : List ℕ) (b : Below (length rs) ns) (g : Groups) (d : Are_groups rs ns g) (hs : List ℕ) (eh : hs ≡ g.heads) where
  pub heads-below : Below (length rs) hs
  heads-below = subst (Below (length rs)) (sym eh) d.below

  pub heads-long : length (once [] (kinds rs ns)) ≡ length hs
  heads-long = ap length (sym d.heads) ∙ kinds-length rs g.heads ∙ ap length (sym eh)

  module _ (ts : List ℕ) (tw : Are_twins rs ts) (i : ℕ) (l : i < length hs) where
    head-inside : get_or hs i 0 < length rs
    head-inside = below-look (length rs) hs i l heads-below

    head-kind : (look rs (get_or hs i 0)).kind ≡ get_or (once [] (kinds rs ns)) i 0
    head-kind = sym (kinds-look rs hs i l) ∙ ap (λ (z : List ℕ). get_or (kinds rs z) i 0) eh ∙ ap (λ (z : List ℕ). get_or z i 0) d.heads

    pub same-is : (x : List ℕ) (gl : List (List ℕ)) → gl ≡ g.lists → x ≡ get_or gl (get_or ts (get_or hs i 0) 0) [] → x ≡ of_kind rs (look rs (get_or hs i 0)).kind ns
    same-is x gl eg ex = ex ∙ ap (λ z. get_or z (get_or ts (get_or hs i 0) 0) []) eg ∙ ap (λ z. get_or g.lists z []) (tw.twin (get_or hs i 0) head-inside) ∙ d.lists (get_or hs i 0) head-inside

    pub same-below : (x : List ℕ) (gl : List (List ℕ)) → gl ≡ g.lists → x ≡ get_or gl (get_or ts (get_or hs i 0) 0) [] → Below (length rs) x
    same-below x gl eg ex = subst (Below (length rs)) (sym (same-is x gl eg ex)) (below-of-kind rs (look rs (get_or hs i 0)).kind (length rs) ns b)

    module _ (r : Row) (is : r ≡ get_or rs (get_or hs i 0) r) where
      row : look rs (get_or hs i 0) ≡ r
      row = look-get rs (get_or hs i 0) r head-inside is

      pub kind-is : r.kind ≡ get_or (once [] (kinds rs ns)) i 0
      kind-is = ap (λ (z : Row). z.kind) (sym row) ∙ head-kind

      pub step-is : (s : PlaceSet) → s.places ≡ ns → (x : List ℕ) (gl : List (List ℕ)) → gl ≡ g.lists → x ≡ get_or gl (get_or ts (get_or hs i 0) 0) []
          → (y : PlaceSet) → y ≡ record { places = in_order (next_rows rs r.kind x) 0 rs; ends = end_rows rs r.kind x } → y ≡ step rs r.kind s
      step-is s es x gl eg ex y ey =
          let f : x ≡ of_kind rs r.kind ns = same-is x gl eg ex ∙ ap (λ (z : Row). of_kind rs z.kind ns) row in
          ey
          ∙ two rs (next_rows rs r.kind x) (next_rows rs r.kind s.places) (end_rows rs r.kind x) (end_rows rs r.kind s.places)
          (ap (next_rows rs r.kind) f ∙ next-of-kind rs r.kind ns ∙ ap (next_rows rs r.kind) (sym es))
          (ap (end_rows rs r.kind) f ∙ end-of-kind rs r.kind ns ∙ ap (end_rows rs r.kind) (sym es))
