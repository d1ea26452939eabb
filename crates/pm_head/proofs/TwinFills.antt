-- Two automata of one expression have the same shortest fill, however their states are numbered.
use Rattle.std.proofs.Common.{◌≡◌, ◌<◌, ℕ, zero, suc, ◌+◌, List, [], ◌∷◌, Bool, true, false, length, cond, eqb, Option, Some, None, inl, inr, refl, ap, sym, ◌∙◌, subst, arith}
use Rattle.std.specs.Prelude.{◌⊎◌, slice_index_or}
use Rattle.pm_auto.specs.declared.places.Row.{Row}
use Rattle.pm_auto.specs.declared.sets.PlaceSet.{PlaceSet}
use Rattle.pm_auto.specs.declared.auto.Edge.{Edge}
use Rattle.pm_auto.specs.declared.auto.Auto.{Auto}
use Rattle.pm_auto.specs.Automata.{Is_automaton}
use Rattle.pm_auto.specs.States.{kinds, once, step, edge_kinds, set_at, Lead_on}
use Rattle.pm_auto.specs.Walks.{target, edges_at, ends_at, via}
use Rattle.pm_auto.specs.Graph.{leads, rank, Before, Shortest}
use Rattle.pm_auto.specs.Fills.{kept, makeable, fits_from, filled}
use Rattle.pm_auto.proofs.AcceptLaws.{edges-of-at}

-- ---- edges with the same types

kept_kinds : List Bool → List ℕ → List ℕ
kept_kinds can [] = []
kept_kinds can (k ∷ ks) = cond (slice_index_or can k false) (k ∷ kept_kinds can ks) (kept_kinds can ks)

kinds-kept : (can : List Bool) (es : List Edge) → edge_kinds (kept can es) ≡ kept_kinds can (edge_kinds es)
unfolding kept_kinds
kinds-kept can [] = refl
kinds-kept can (e ∷ es) = at (slice_index_or can e.kind false) (kinds-kept can es)
  where
    at : (b : Bool) → edge_kinds (kept can es) ≡ kept_kinds can (edge_kinds es) → edge_kinds (cond b (e ∷ kept can es) (kept can es)) ≡ cond b (e.kind ∷ kept_kinds can (edge_kinds es)) (kept_kinds can (edge_kinds es))
    at true h = ap (λ ks. e.kind ∷ ks) h
    at false h = h

lead-kept : (can : List Bool) (rs : List Row) (ss : List PlaceSet) (s : PlaceSet) (es : List Edge) → Lead_on rs ss s es → Lead_on rs ss s (kept can es)
lead-kept can rs ss s [] h = tt
lead-kept can rs ss s (e ∷ es) h = at (slice_index_or can e.kind false) (lead-kept can rs ss s es h.1)
  where
    at : (b : Bool) → Lead_on rs ss s (kept can es) → Lead_on rs ss s (cond b (e ∷ kept can es) (kept can es))
    at true l = (h.0, l)
    at false l = l

edges-kept : (can : List Bool) (ess : List (List Edge)) (i : ℕ) → edges_at (makeable can ess) i ≡ kept can (edges_at ess i)
edges-kept can [] i = refl
edges-kept can (es ∷ ess) zero = refl
edges-kept can (es ∷ ess) (suc i) = edges-kept can ess i

rank-same : (k : ℕ) (es fs : List Edge) → edge_kinds es ≡ edge_kinds fs → rank k es ≡ rank k fs
rank-same k [] [] h = refl
rank-same k [] (f ∷ fs) h = absurd (cc)
rank-same k (e ∷ es) [] h = absurd (cc)
rank-same k (e ∷ es) (f ∷ fs) h =
    let one : e.kind ≡ f.kind = cc in
    let more : edge_kinds es ≡ edge_kinds fs = cc in
    ap (λ j. cond (eqb j k) 0 (suc (rank k es))) one ∙ ap (λ n. cond (eqb f.kind k) 0 (suc n)) (rank-same k es fs more)

-- ---- what comes first at the first difference does not come second

before-once : (links : List (List Edge)) (s : ℕ) (w v : List ℕ) → Before links s w v → Before links s v w → ⊥
before-once links s [] v h g = h
before-once links s (j ∷ u) [] h g = h
before-once links s (j ∷ u) (k ∷ v) (inl l) (inl m) = omega (arith, l, m)
before-once links s (j ∷ u) (k ∷ v) (inl l) (inr m) = let e : rank k (edges_at links s) ≡ rank j (edges_at links s) = ap (λ x. rank x (edges_at links s)) m.0 in omega (arith, l, e)
before-once links s (j ∷ u) (k ∷ v) (inr l) (inl m) = let e : rank j (edges_at links s) ≡ rank k (edges_at links s) = ap (λ x. rank x (edges_at links s)) l.0 in omega (arith, m, e)
before-once links s (j ∷ u) (k ∷ v) (inr l) (inr m) =
    let a = l.1.1 in
    let b = m.1.1 in
    let q = l.0 in
    let e : m.1.0 ≡ l.1.0 = cc in
    before-once links l.1.0 u v l.1.2 (subst (λ t. Before links t v u) e m.1.2)

-- the states at which a fill may end
ends-fits : (ss : List PlaceSet) (ess : List (List Edge)) (xs : List PlaceSet) (n i : ℕ) → i < length xs → slice_index_or (fits_from ss ess true [] n xs) i false ≡ ends_at ss (n + i)
ends-fits ss ess [] n i l = absurd (omega (arith, l))
ends-fits ss ess (x ∷ xs) n zero l = ap (ends_at ss) (omega arith)
ends-fits ss ess (x ∷ xs) n (suc i) l = ends-fits ss ess xs (suc n) i (omega (arith, l)) ∙ ap (ends_at ss) (omega arith)

module _ (rs : List Row) (start : PlaceSet) (can : List Bool) (a b : Auto) (ha : Is_automaton rs start a) (hb : Is_automaton rs start b) where
  -- a state of each, which are one set of places
  record Twin (i j : ℕ) : Type 0 where
    left : i < length a.sets
    right : j < length b.sets
    same : set_at a.sets i ≡ set_at b.sets j

  abbrev Twins : Option ℕ → Option ℕ → Type 0
  Twins None None = Unit {0}
  Twins None (Some u) = ⊥
  Twins (Some t) None = ⊥
  Twins (Some t) (Some u) = Twin t u

  abbrev at_a : ℕ → List Edge
  at_a i = edges_at (makeable can a.edges) i

  abbrev at_b : ℕ → List Edge
  at_b j = edges_at (makeable can b.edges) j

  kinds-twin : (i j : ℕ) → Twin i j → edge_kinds (at_a i) ≡ edge_kinds (at_b j)
  kinds-twin i j t =
      let ea = edges-of-at rs a.sets a.sets a.edges i (omega (arith, t.left, ha.full)) ha.edges in
      let eb = edges-of-at rs b.sets b.sets b.edges j (omega (arith, t.right, hb.full)) hb.edges in
      let e : edge_kinds (edges_at a.edges i) ≡ edge_kinds (edges_at b.edges j) = ea.types ∙ ap (λ (s : PlaceSet). once [] (kinds rs s.places)) t.same ∙ sym eb.types in
      ap edge_kinds (edges-kept can a.edges i) ∙ kinds-kept can (edges_at a.edges i) ∙ ap (kept_kinds can) e ∙ sym (kinds-kept can (edges_at b.edges j)) ∙ sym (ap edge_kinds (edges-kept can b.edges j))

  lead-a : (i : ℕ) → i < length a.sets → Lead_on rs a.sets (set_at a.sets i) (at_a i)
  lead-a i l =
      let ea = edges-of-at rs a.sets a.sets a.edges i (omega (arith, l, ha.full)) ha.edges in
      subst (Lead_on rs a.sets (set_at a.sets i)) (sym (edges-kept can a.edges i)) (lead-kept can rs a.sets (set_at a.sets i) (edges_at a.edges i) ea.lead)

  lead-b : (j : ℕ) → j < length b.sets → Lead_on rs b.sets (set_at b.sets j) (at_b j)
  lead-b j l =
      let eb = edges-of-at rs b.sets b.sets b.edges j (omega (arith, l, hb.full)) hb.edges in
      subst (Lead_on rs b.sets (set_at b.sets j)) (sym (edges-kept can b.edges j)) (lead-kept can rs b.sets (set_at b.sets j) (edges_at b.edges j) eb.lead)

  pick : (x y : Bool) (o p q r : Option ℕ) → x ≡ y → Twins o p → Twins q r → Twins (cond x o q) (cond y p r)
  pick true true o p q r e h g = h
  pick false false o p q r e h g = g
  pick true false o p q r e h g = absurd (cc)
  pick false true o p q r e h g = absurd (cc)

  target-twins : (k : ℕ) (s t : PlaceSet) → s ≡ t → (es fs : List Edge) → edge_kinds es ≡ edge_kinds fs → Lead_on rs a.sets s es → Lead_on rs b.sets t fs → Twins (target k es) (target k fs)
  target-twins k s t e [] [] h l m = tt
  target-twins k s t e [] (f ∷ fs) h l m = absurd (cc)
  target-twins k s t e (d ∷ es) [] h l m = absurd (cc)
  target-twins k s t e (d ∷ es) (f ∷ fs) h l m =
      let one : d.kind ≡ f.kind = cc in
      let more : edge_kinds es ≡ edge_kinds fs = cc in
      let there : step rs d.kind s ≡ step rs f.kind t = λ i. step rs (one i) (e i) in
      let twin : Twin d.to f.to = record { left = l.0.0; right = m.0.0; same = l.0.1 ∙ there ∙ sym m.0.1 } in
      pick (eqb d.kind k) (eqb f.kind k) (Some d.to) (Some f.to) (target k es) (target k fs) (ap (λ j. eqb j k) one) twin (target-twins k s t e es fs more l.1 m.1)

  targets : (k i j : ℕ) → Twin i j → Twins (target k (at_a i)) (target k (at_b j))
  targets k i j t = target-twins k (set_at a.sets i) (set_at b.sets j) t.same (at_a i) (at_b j) (kinds-twin i j t) (lead-a i t.left) (lead-b j t.right)

  via-twins : (f g : ℕ → Bool) (o p : Option ℕ) → Twins o p → ((t u : ℕ) → Twin t u → f t ≡ g u) → via f o ≡ via g p
  via-twins f g None None h e = refl
  via-twins f g None (Some u) h e = absurd h
  via-twins f g (Some t) None h e = absurd h
  via-twins f g (Some t) (Some u) h e = e t u h

  leads-twin : (w : List ℕ) (i j : ℕ) → Twin i j → leads (makeable can a.edges) (filled a true []) i w ≡ leads (makeable can b.edges) (filled b true []) j w
  leads-twin [] i j t =
      let e : 0 + i ≡ i = omega arith in
      let f : 0 + j ≡ j = omega arith in
      ends-fits a.sets a.edges a.sets 0 i t.left ∙ ap (ends_at a.sets) e
      ∙ ap (λ (s : PlaceSet). s.ends) t.same
      ∙ sym (ends-fits b.sets b.edges b.sets 0 j t.right ∙ ap (ends_at b.sets) f)
  leads-twin (k ∷ w) i j t = via-twins (λ x. leads (makeable can a.edges) (filled a true []) x w) (λ y. leads (makeable can b.edges) (filled b true []) y w) (target k (at_a i)) (target k (at_b j)) (targets k i j t) (λ x y z. leads-twin w x y z)

  record Met (x : ℕ) (p : Option ℕ) : Type 0 where
    to : ℕ
    is : p ≡ Some to
    twin : Twin x to

  met : (o p : Option ℕ) (x : ℕ) → o ≡ Some x → Twins o p → Met x p
  met None p x h t = absurd (cc)
  met (Some y) None x h t = absurd t
  met (Some y) (Some z) x h t = let e : y ≡ x = cc in record { to = z; is = refl; twin = subst (λ n. Twin n z) e t }

  before-twin : (w v : List ℕ) (i j : ℕ) → Twin i j → Before (makeable can a.edges) i w v → Before (makeable can b.edges) j w v
  before-twin [] v i j t h = h
  before-twin (x ∷ w) [] i j t h = h
  before-twin (x ∷ w) (y ∷ v) i j t (inl l) =
      let p = rank-same x (at_a i) (at_b j) (kinds-twin i j t) in
      let q = rank-same y (at_a i) (at_b j) (kinds-twin i j t) in
      inl (omega (arith, l, p, q))
  before-twin (x ∷ w) (y ∷ v) i j t (inr l) =
      let m = met (target x (at_a i)) (target x (at_b j)) l.1.0 l.1.1 (targets x i j t) in
      inr (l.0, (m.to, m.is, before-twin w v l.1.0 m.to m.twin l.1.2))

  starts-twin : Twin 0 0
  starts-twin = record { left = ha.some; right = hb.some; same = ha.begins ∙ sym hb.begins }

  pub one-fill : (w v : List ℕ) → Shortest (makeable can a.edges) (filled a true []) 0 w → Shortest (makeable can b.edges) (filled b true []) 0 v → w ≡ v
  one-fill w v hw hv = at (hw.least v (leads-twin v 0 0 starts-twin ∙ hv.leads_on)) (hv.least w (sym (leads-twin w 0 0 starts-twin) ∙ hw.leads_on))
    where
      at : (w ≡ v) ⊎ ((length w < length v) ⊎ ((length w ≡ length v) × Before (makeable can a.edges) 0 w v))
          → (v ≡ w) ⊎ ((length v < length w) ⊎ ((length v ≡ length w) × Before (makeable can b.edges) 0 v w)) → w ≡ v
      at (inl e) q = e
      at (inr p) (inl e) = sym e
      at (inr (inl l)) (inr (inl m)) = absurd (omega (arith, l, m))
      at (inr (inl l)) (inr (inr m)) = let e = m.0 in absurd (omega (arith, l, e))
      at (inr (inr l)) (inr (inl m)) = let e = l.0 in absurd (omega (arith, m, e))
      at (inr (inr l)) (inr (inr m)) = absurd (before-once (makeable can b.edges) 0 w v (before-twin w v 0 0 starts-twin l.1) m.1)
