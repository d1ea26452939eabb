-- The nodes of a graph from which a goal can be reached.
use Rattle.std.proofs.Common.{◌≡◌, ◌⊎◌, ⊎_elim, ◌↔◌, ℕ, zero, suc, ◌<◌, ◌≤◌, List, [], ◌∷◌, length, Bool, true, false, ◌||◌, ◌&&◌, cond, refl, ap, ◌∙◌, sym, subst, inl, inr, get_or, set, arith}
use Rattle.std.specs.Prelude.{Option, Some, None, IfSome, Result, Ok, Err, IfOk, eqb, ◌+◌}
use Rattle.std.specs.declared.alloc.AllocError.{AllocError}
use Rattle.std.proofs.lemmas.List.{length-map, get_or-set_other}
use Rattle.pm_auto.specs.declared.auto.Edge.{Edge}
use Rattle.pm_auto.specs.declared.auto.Auto.{Auto}
use Rattle.pm_auto.specs.declared.sets.PlaceSet.{PlaceSet}
use Rattle.pm_auto.specs.Graph.{Is_graph, leads, Reaches}
use Rattle.pm_auto.specs.Walks.{target, edges_at, ends_at, accepted, via}
use Rattle.pm_auto.specs.Near.{near, one_to, first_to, wider, Keeps, All_reach}
use Rattle.pm_auto.specs.Fills.{kept, makeable, fits_from, filled}
use Rattle.pm_auto.specs.Finish.{all_can, Finishes}
use Rattle.std.proofs.lemmas.Bool.{eqb-true, cases_lt}
use Rattle.pm_auto.proofs.GraphLaws.{target-state}
use Rattle.pm_auto.proofs.SearchLaws.{graph-at, target-inside, wider-at, first-parted, first-marked, none-leads, falses}

or-cases : (a b : Bool) → a || b ≡ true → (a ≡ true) ⊎ (b ≡ true)
or-cases true b h = inl refl
or-cases false b h = inr h

module _ (links : List (List Edge)) (goals : List Bool) (g : Is_graph (length links) links) where
  pub near-step : (m : List Bool) (s : ℕ) → s < length links → ((t : ℕ) → t < length links → get_or m t false ≡ true → Reaches links goals t)
      → (get_or m s false ≡ true) ⊎ (one_to m (edges_at links s) ≡ true) → Reaches links goals s
  near-step m s l go (inl e) = go s l e
  near-step m s l go (inr e) =
      let p = graph-at (length links) links s g in
      let q : target (first_to m (edges_at links s)).kind (edges_at links s) ≡ Some (first_to m (edges_at links s)).to = (first-parted m (edges_at links s) e p.0).0 in
      let r = go (first_to m (edges_at links s)).to (target-inside (length links) (first_to m (edges_at links s)).kind (first_to m (edges_at links s)).to (edges_at links s) p.1 q) (first-marked m (edges_at links s) e) in
      ((first_to m (edges_at links s)).kind ∷ r.0, ap (via (λ t. leads links goals t r.0)) q ∙ r.1)

  -- a node that was found leads to a goal
  pub near-reaches : (n s : ℕ) → s < length links → get_or (near links goals n) s false ≡ true → Reaches links goals s
  near-reaches zero s l h = ([], h)
  near-reaches (suc n) s l h =
      near-step (near links goals n) s l (λ t k e. near-reaches n t k e)
      (or-cases (get_or (near links goals n) s false) (one_to (near links goals n) (edges_at links s)) (sym (wider-at (near links goals n) links (near links goals n) s l) ∙ h))

  -- where a round finds nothing more, the nodes that were found are those that lead to a goal
  pub still-reaches : (n : ℕ) (last : List Bool) → last ≡ near links goals n → wider last links last ≡ last → (s : ℕ) → s < length links → (get_or last s false ≡ true) ↔ Reaches links goals s
  still-reaches n last is still s l =
      ((λ e. near-reaches n s l (ap (λ (m : List Bool). get_or m s false) (sym is) ∙ e)), (λ r. at r (get_or last s false) refl))
    where
      at : Reaches links goals s → (b : Bool) → get_or last s false ≡ b → get_or last s false ≡ true
      at r true e = e
      at r false e = absurd (
          let f : leads links goals s r.0 ≡ false = none-leads links goals g n s l (ap (λ (m : List Bool). wider m links m) (sym is) ∙ still ∙ is) (ap (λ (m : List Bool). get_or m s false) (sym is) ∙ e) r.0 in
          let z : true ≡ false = sym r.1 ∙ f in cc)

-- a list that leads to a goal leads to what is marked, where the goals are
leads-more : (links : List (List Edge)) (goals m : List Bool) → Keeps goals m → (s : ℕ) (w : List ℕ) → leads links goals s w ≡ true → leads links m s w ≡ true
leads-more links goals m h s [] e = h s e
leads-more links goals m h s (k ∷ w) e = on (target k (edges_at links s)) (λ t. leads-more links goals m h t w) e
  where
    on : (o : Option ℕ) → ((t : ℕ) → leads links goals t w ≡ true → leads links m t w ≡ true) → via (λ t. leads links goals t w) o ≡ true → via (λ t. leads links m t w) o ≡ true
    on None f e = e
    on (Some t) f e = f t e

-- where a round finds nothing more, what is marked are the nodes that lead to a goal
pub closed-reaches : (links : List (List Edge)) (goals : List Bool) → Is_graph (length links) links → (m next : List Bool) → next ≡ wider m links m → next ≡ m → Keeps goals m → All_reach links goals m
    → (s : ℕ) → s < length links → (get_or next s false ≡ true) ↔ Reaches links goals s
closed-reaches links goals g m next e q keeps reach s l = (
  (λ h. reach s l (sym (ap (λ (x : List Bool). get_or x s false) q) ∙ h)),
  (λ r. ap (λ (x : List Bool). get_or x s false) q ∙ (still-reaches links m g 0 m refl (sym e ∙ q) s l).1 (r.0, leads-more links goals m keeps s r.0 r.1)),
)

-- one node more is marked
pub set-keeps : (m : List Bool) (k : ℕ) → Keeps m (set m k true)
set-keeps [] k s e = e
set-keeps (b ∷ m) zero zero e = refl
set-keeps (b ∷ m) zero (suc s) e = e
set-keeps (b ∷ m) (suc k) zero e = e
set-keeps (b ∷ m) (suc k) (suc s) e = set-keeps m k s e

pub set-reaches : (links : List (List Edge)) (goals : List Bool) → Is_graph (length links) links → (m : List Bool) (k : ℕ) → one_to m (edges_at links k) ≡ true → All_reach links goals m
    → All_reach links goals (set m k true)
set-reaches links goals g m k hit h s l e =
    ⊎_elim (λ (same : s ≡ k). near-step links goals g m s l h (inr (ap (λ (j : ℕ). one_to m (edges_at links j)) same ∙ hit)))
    (λ (other : s ≡ k → ⊥). h s l (sym (get_or-set_other m k s true false other) ∙ e))
    (same-or s k)
  where
    same-or : (a b : ℕ) → (a ≡ b) ⊎ (a ≡ b → ⊥)
    same-or a b = ⊎_elim (λ (x : a < b). inr (λ (q : a ≡ b). omega (arith, x, q)))
        (λ (x : b ≤ a). ⊎_elim (λ (y : b < a). inr (λ (q : a ≡ b). omega (arith, y, q))) (λ (y : a ≤ b). inl (omega (arith, x, y))) (cases_lt b a)) (cases_lt a b)

-- a round keeps what is marked
wider-all : (m : List Bool) (ess : List (List Edge)) (bs : List Bool) → length bs ≡ length ess → Keeps bs (wider m ess bs)
wider-all m [] [] h s e = e
wider-all m [] (b ∷ bs) h s e = absurd (omega (arith, h))
wider-all m (es ∷ ess) [] h s e = absurd (omega (arith, h))
wider-all m (es ∷ ess) (b ∷ bs) h zero e = ap (λ (t : Bool). t || one_to m es) e
wider-all m (es ∷ ess) (b ∷ bs) h (suc s) e = wider-all m ess bs (omega (arith, h)) s e

pub wider-keeps : (m : List Bool) (links : List (List Edge)) → length m ≡ length links → Keeps m (wider m links m)
wider-keeps m links h = wider-all m links m h

pub wider-reaches : (links : List (List Edge)) (goals : List Bool) → Is_graph (length links) links → (m : List Bool) → All_reach links goals m → All_reach links goals (wider m links m)
wider-reaches links goals g m h s l e =
    near-step links goals g m s l h (or-cases (get_or m s false) (one_to m (edges_at links s)) (sym (wider-at m links m s l) ∙ e))

-- as many as were marked are marked still
pub keeps-fewer : (old new : List Bool) → length new ≡ length old → Keeps old new → falses new ≤ falses old
keeps-fewer [] [] n h = omega arith
keeps-fewer [] (c ∷ new) n h = absurd (omega (arith, n))
keeps-fewer (b ∷ old) [] n h = absurd (omega (arith, n))
keeps-fewer (b ∷ old) (c ∷ new) n h = each b c (h zero) (keeps-fewer old new (omega (arith, n)) (λ s e. h (suc s) e))
  where
    each : (b c : Bool) → (b ≡ true → c ≡ true) → falses new ≤ falses old → falses (c ∷ new) ≤ falses (b ∷ old)
    each true true f l = l
    each true false f l = absurd (let z : false ≡ true = f refl in cc)
    each false true f l = omega (arith, l)
    each false false f l = omega (arith, l)

-- the edges of types that can be made
pub none-either : (b : Bool) (n : Option ℕ) → n ≡ cond b n n
none-either true n = refl
none-either false n = refl

pub kept-step : (can : List Bool) (k : ℕ) (e : Edge) (es : List Edge) → target k (kept can es) ≡ cond (get_or can k false) (target k es) None → (b c : Bool) → get_or can e.kind false ≡ b → eqb e.kind k ≡ c
    → target k (kept can (e ∷ es)) ≡ cond (get_or can k false) (target k (e ∷ es)) None
kept-step can k e es ih true true p q = let r : get_or can k false ≡ true = ap (λ (n : ℕ). get_or can n false) (sym (eqb-true e.kind k q)) ∙ p in rw (p, q, r) refl
kept-step can k e es ih true false p q = rw (p, q, ih) refl
kept-step can k e es ih false true p q = let r : get_or can k false ≡ false = ap (λ (n : ℕ). get_or can n false) (sym (eqb-true e.kind k q)) ∙ p in rw (p, ih, r) refl
kept-step can k e es ih false false p q = rw (p, q, ih) refl

pub target-kept : (can : List Bool) (k : ℕ) (es : List Edge) → target k (kept can es) ≡ cond (get_or can k false) (target k es) None
target-kept can k [] = none-either (get_or can k false) None
target-kept can k (e ∷ es) = kept-step can k e es (target-kept can k es) (get_or can e.kind false) (eqb e.kind k) refl refl

pub edges-kept : (can : List Bool) (ess : List (List Edge)) (s : ℕ) → edges_at (makeable can ess) s ≡ kept can (edges_at ess s)
edges-kept can [] s = refl
edges-kept can (es ∷ ess) zero = refl
edges-kept can (es ∷ ess) (suc s) = edges-kept can ess s

pub ends-from : (ss : List PlaceSet) (ess : List (List Edge)) (s n : ℕ) (xs : List PlaceSet) → s < length xs → get_or (fits_from ss ess true [] n xs) s false ≡ ends_at ss (n + s)
ends-from ss ess s n [] l = absurd (omega arith)
ends-from ss ess zero n (x ∷ xs) l = let z : n ≡ n + 0 = omega arith in ap (ends_at ss) z
ends-from ss ess (suc s) n (x ∷ xs) l = let z : suc n + s ≡ n + suc s = omega arith in ends-from ss ess s (suc n) xs (omega arith) ∙ ap (ends_at ss) z

pub and-false : (c : Bool) → false ≡ c && false
and-false true = refl
and-false false = refl

pub on-both : (b c : Bool) (t : Option ℕ) (f g : ℕ → Bool) → IfSome t (λ i. f i ≡ c && g i) → via f (cond b t None) ≡ (b && c) && via g t
on-both true c None f g h = and-false c
on-both true c (Some i) f g h = h
on-both false c t f g h = refl

pub if_some-map : {P Q : ℕ → Type 0} (t : Option ℕ) → ((i : ℕ) → P i → Q i) → IfSome t P → IfSome t Q
if_some-map None f h = tt
if_some-map (Some i) f h = f i h

-- a list leads to a goal where it is of types that can be made and leads to a valid end
pub leads-ends : (can : List Bool) (a : Auto) (w : List ℕ) (s : ℕ) → s < length a.sets
    → leads (makeable can a.edges) (filled a true []) s w ≡ all_can can w && accepted a.sets a.edges s w
leads-ends can a [] s l = let z : 0 + s ≡ s = omega arith in ends-from a.sets a.edges s 0 a.sets l ∙ ap (ends_at a.sets) z
leads-ends can a (k ∷ w) s l =
    ap (λ (es : List Edge). via (λ t. leads (makeable can a.edges) (filled a true []) t w) (target k es)) (edges-kept can a.edges s)
    ∙ ap (via (λ t. leads (makeable can a.edges) (filled a true []) t w)) (target-kept can k (edges_at a.edges s))
    ∙ on-both (get_or can k false) (all_can can w) (target k (edges_at a.edges s)) (λ t. leads (makeable can a.edges) (filled a true []) t w) (λ t. accepted a.sets a.edges t w)
    (if_some-map (target k (edges_at a.edges s)) (λ i m. leads-ends can a w i m) (target-state (length a.sets) k s a.edges a.graph))

both : (b c : Bool) → b && c ≡ true → (b ≡ true) × (c ≡ true)
both true c h = (refl, h)
both false c h = absurd (cc)

-- so the nodes from which a goal can be reached are the states that finish
reaches-finishes : (can : List Bool) (a : Auto) (s : ℕ) → s < length a.sets → Reaches (makeable can a.edges) (filled a true []) s ↔ Finishes can a s
reaches-finishes can a s l = (
  (λ r. let b : (all_can can r.0 ≡ true) × (accepted a.sets a.edges s r.0 ≡ true) = both (all_can can r.0) (accepted a.sets a.edges s r.0) (sym (leads-ends can a r.0 s l) ∙ r.1) in record { list = r.0; makeable = b.0; ends = b.1 }),
  (λ f. (f.list, leads-ends can a f.list s l ∙ rw (f.makeable, f.ends) refl)),
)

pub finishes-ok : (can : List Bool) (a : Auto) (links : List (List Edge)) (goals : List Bool) → links ≡ makeable can a.edges → goals ≡ filled a true [] → (r : Result (List Bool) AllocError)
    → IfOk r (λ l. (s : ℕ) → s < length links → (get_or l s false ≡ true) ↔ Reaches links goals s) → IfOk r (λ l. (s : ℕ) → s < length a.sets → (get_or l s false ≡ true) ↔ Finishes can a s)
finishes-ok can a links goals e g (Err x) h = tt
finishes-ok can a links goals e g (Ok l) h =
    let P : List (List Edge) → Type 0 = λ ls. (s : ℕ) → s < length ls → (get_or l s false ≡ true) ↔ Reaches ls goals s in
    let i : P (makeable can a.edges) = subst P e h in
    let Q : List Bool → Type 0 = λ gs. (s : ℕ) → s < length (makeable can a.edges) → (get_or l s false ≡ true) ↔ Reaches (makeable can a.edges) gs s in
    let j : Q (filled a true []) = subst Q g i in
    let n : length (makeable can a.edges) ≡ length a.sets = length-map a.edges (kept can) ∙ a.full in
    λ s k.
    let k' : s < length (makeable can a.edges) = omega (arith, n, k) in
    let f = reaches-finishes can a s k in
    ((λ x. f.0 ((j s k').0 x)), (λ x. (j s k').1 (f.1 x)))
