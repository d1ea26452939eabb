-- Lists of places that follow one another in a table, and the states of sets that they lead through.
use Rattle.std.proofs.Common.{◌≡◌, ℕ, ◌+◌, ◌<◌, List, [], ◌∷◌, ◌++◌, map, length, true, eqb, refl, sym, ◌∙◌, subst, arith, inl, inr, ◌⊎◌}
use Rattle.std.proofs.lemmas.Bool.{eqb-true, eq-eqb}
use Rattle.pm_auto.specs.declared.places.Row.{Row}
use Rattle.pm_auto.specs.declared.sets.PlaceSet.{PlaceSet}
use Rattle.pm_auto.specs.Core.{when}
use Rattle.pm_auto.specs.Runs.{look, next_rows}
use Rattle.pm_auto.specs.States.{has, in_order, step, kinds, Leads_to}
use Rattle.pm_auto.proofs.HasLaws.{Has, has-find, has-back, has-split, has-left, has-right, has-when, has-unwhen, or-split, or-left, or-right}
use Rattle.pm_places.proofs.Members.{Is_in, order-in, in-order}

-- the type of a place
abbrev pub kind_at : List Row → ℕ → ℕ
kind_at rs p = (look rs p).kind

-- the first is one of the places, and each next one may follow the one before it
abbrev pub Linked : List Row → List ℕ → List ℕ → Type 0
Linked rs ns [] = Unit {0}
Linked rs ns (p ∷ ps) = (Is_in p ns × (p < length rs)) × Linked rs (look rs p).follow ps

-- a place of the type that m may follow
abbrev Precedes : List Row → ℕ → ℕ → ℕ → Type 0
Precedes rs k m p = (kind_at rs p ≡ k) × Is_in m (look rs p).follow

next-in : (rs : List Row) (k m : ℕ) (ns : List ℕ) → Is_in m (next_rows rs k ns) → Has (Precedes rs k m) ns
next-in rs k m [] h = absurd h
next-in rs k m (n ∷ ns) h = at (has-split (λ (y : ℕ). y ≡ m) (when (eqb (look rs n).kind k) (look rs n).follow) (next_rows rs k ns) h) (next-in rs k m ns)
  where
    at : Is_in m (when (eqb (look rs n).kind k) (look rs n).follow) ⊎ Is_in m (next_rows rs k ns) → (Is_in m (next_rows rs k ns) → Has (Precedes rs k m) ns) → Has (Precedes rs k m) (n ∷ ns)
    at (inl x) f = let y : (eqb (look rs n).kind k ≡ true) × Is_in m (look rs n).follow = has-unwhen (λ (y : ℕ). y ≡ m) (eqb (look rs n).kind k) (look rs n).follow x in inl (eqb-true (look rs n).kind k y.0, y.1)
    at (inr x) f = inr (f x)

in-next : (rs : List Row) (k m : ℕ) (ns : List ℕ) → Has (Precedes rs k m) ns → Is_in m (next_rows rs k ns)
in-next rs k m [] h = absurd h
in-next rs k m (n ∷ ns) (inl h) = has-left (λ (y : ℕ). y ≡ m) (when (eqb (look rs n).kind k) (look rs n).follow) (next_rows rs k ns) (has-when (λ (y : ℕ). y ≡ m) (eqb (look rs n).kind k) (look rs n).follow (eq-eqb (look rs n).kind k h.0) h.1)
in-next rs k m (n ∷ ns) (inr h) = has-right (λ (y : ℕ). y ≡ m) (when (eqb (look rs n).kind k) (look rs n).follow) (next_rows rs k ns) (in-next rs k m ns h)

pub kinds-in : (rs : List Row) (k : ℕ) (ns : List ℕ) → has k (kinds rs ns) ≡ true → Has (λ (p : ℕ). kind_at rs p ≡ k) ns
kinds-in rs k [] h = absurd (cc)
kinds-in rs k (n ∷ ns) h = at (or-split (eqb (look rs n).kind k) (has k (kinds rs ns)) h) (kinds-in rs k ns)
  where
    at : (eqb (look rs n).kind k ≡ true) ⊎ (has k (kinds rs ns) ≡ true) → (has k (kinds rs ns) ≡ true → Has (λ (p : ℕ). kind_at rs p ≡ k) ns) → Has (λ (p : ℕ). kind_at rs p ≡ k) (n ∷ ns)
    at (inl e) f = inl (eqb-true (look rs n).kind k e)
    at (inr e) f = inr (f e)

pub in-kinds : (rs : List Row) (k : ℕ) (ns : List ℕ) → Has (λ (p : ℕ). kind_at rs p ≡ k) ns → has k (kinds rs ns) ≡ true
in-kinds rs k [] h = absurd h
in-kinds rs k (n ∷ ns) (inl e) = or-left (eqb (look rs n).kind k) (has k (kinds rs ns)) (eq-eqb (look rs n).kind k e)
in-kinds rs k (n ∷ ns) (inr h) = or-right (eqb (look rs n).kind k) (has k (kinds rs ns)) (in-kinds rs k ns h)

-- each place has a row
abbrev pub Within : List Row → List ℕ → Type 0
Within rs ns = (p : ℕ) → Is_in p ns → p < length rs

pub order-within : (rs : List Row) (ns : List ℕ) → Within rs (in_order ns 0 rs)
order-within rs ns p h = let o = order-in ns 0 p rs h in let u : p < 0 + length rs = o.2 in omega (arith, u)

-- a place of the type that these places may follow
record Before (rs : List Row) (k : ℕ) (ns xs : List ℕ) : Type 0 where
  pub place : ℕ
  pub holds : kind_at rs place ≡ k
  pub at : Is_in place ns
  pub links : Linked rs (look rs place).follow xs

step-back : (rs : List Row) (k : ℕ) (s : PlaceSet) (xs : List ℕ) → has k (kinds rs s.places) ≡ true → Linked rs (step rs k s).places xs → Before rs k s.places xs
step-back rs k s [] h l = let f = has-find (λ (p : ℕ). kind_at rs p ≡ k) s.places (kinds-in rs k s.places h) in record { place = f.it; holds = f.holds; at = f.at; links = tt }
step-back rs k s (x ∷ xs) h l =
    let o = order-in (next_rows rs k s.places) 0 x rs l.0.0 in
    let f = has-find (Precedes rs k x) s.places (next-in rs k x s.places o.0) in
    record { place = f.it; holds = f.holds.0; at = f.at; links = ((f.holds.1, l.0.1), l.1) }

step-on : (rs : List Row) (k p : ℕ) (s : PlaceSet) (xs : List ℕ) → Is_in p s.places → kind_at rs p ≡ k → Linked rs (look rs p).follow xs → Linked rs (step rs k s).places xs
step-on rs k p s [] h e l = tt
step-on rs k p s (x ∷ xs) h e l =
    let u : x < length rs = l.0.1 in
    ((in-order (next_rows rs k s.places) 0 x rs (in-next rs k x s.places (has-back (Precedes rs k x) s.places p h (e, l.0.0))) (omega arith) (omega (arith, u)), l.0.1), l.1)

-- places that spell the list and lead on to these
pub record Spelled (rs : List Row) (ns w us : List ℕ) : Type 0 where
  pub places : List ℕ
  pub spell : map (kind_at rs) places ≡ w
  pub links : Linked rs ns (places ++ us)

pub leads-linked : (rs : List Row) (w : List ℕ) (s t : PlaceSet) (us : List ℕ) → Within rs s.places → Leads_to rs s w t → Linked rs t.places us → Spelled rs s.places w us
leads-linked rs [] s t us i h l = record { places = []; spell = refl; links = subst (λ (z : PlaceSet). Linked rs z.places us) (sym h) l }
leads-linked rs (k ∷ w) s t us i h l =
    let r = leads-linked rs w (step rs k s) t us (order-within rs (next_rows rs k s.places)) h.1 l in
    let b = step-back rs k s (r.places ++ us) h.0 r.links in
    record { places = b.place ∷ r.places; spell = rw (b.holds, r.spell) refl; links = ((b.at, i b.place b.at), b.links) }

-- the state that the types of the places lead to
pub record Led (rs : List Row) (s : PlaceSet) (w us : List ℕ) : Type 0 where
  pub to : PlaceSet
  pub leads : Leads_to rs s w to
  pub links : Linked rs to.places us

pub linked-leads : (rs : List Row) (ps us : List ℕ) (s : PlaceSet) → Linked rs s.places (ps ++ us) → Led rs s (map (kind_at rs) ps) us
linked-leads rs [] us s l = record { to = s; leads = refl; links = l }
linked-leads rs (p ∷ ps) us s l =
    let k = kind_at rs p in
    let r = linked-leads rs ps us (step rs k s) (step-on rs k p s (ps ++ us) l.0.0 refl l.1) in
    record { to = r.to; leads = (in-kinds rs k s.places (has-back (λ (q : ℕ). kind_at rs q ≡ k) s.places p l.0.0 refl), r.leads); links = r.links }

pub leads-one : (rs : List Row) (w : List ℕ) (s t u : PlaceSet) → Leads_to rs s w t → Leads_to rs s w u → t ≡ u
leads-one rs [] s t u h i = sym h ∙ i
leads-one rs (k ∷ w) s t u h i = leads-one rs w (step rs k s) t u h.1 i.1
