-- A table of places has an automaton, or more than a thousand states can be reached, and never both.
use Rattle.std.proofs.Common.{◌≡◌, ◌<◌, ◌≤◌, ◌⊎◌, ◌+◌, ℕ, zero, suc, List, [], ◌∷◌, ◌++◌, length, drop, Bool, true, false, ◌||◌, cond, eqb, inl, inr, refl, ap, sym, ◌∙◌, subst, arith}
use Rattle.std.proofs.lemmas.Bool.{eqb-true, eq-eqb}
use Rattle.pm_auto.specs.declared.places.Row.{Row}
use Rattle.pm_auto.specs.declared.sets.PlaceSet.{PlaceSet}
use Rattle.pm_auto.specs.declared.auto.Edge.{Edge}
use Rattle.pm_auto.specs.declared.auto.Auto.{Auto}
use Rattle.pm_auto.specs.States.{has, step, kinds, once, Leads_to, All_reached, Apart, Differ, Too_many, edge_kinds, set_at, Lead_on, Edges_of, All_edges}
use Rattle.pm_auto.specs.Walks.{edges_at}
use Rattle.pm_auto.specs.Automata.{Is_automaton}
use Rattle.pm_auto.proofs.AcceptLaws.{or-right, edges-of-at, lead-target}
use Rattle.pm_auto.proofs.GraphLaws.{edges-graph}

-- ---- two sets of places are the same, or not

same-lists : (xs ys : List ℕ) → (xs ≡ ys) ⊎ (xs ≡ ys → ⊥)
same-lists [] [] = inl refl
same-lists [] (y ∷ ys) = inr (λ h. absurd (cc))
same-lists (x ∷ xs) [] = inr (λ h. absurd (cc))
same-lists (x ∷ xs) (y ∷ ys) = at (eqb x y) refl (same-lists xs ys)
  where
    at : (b : Bool) → eqb x y ≡ b → (xs ≡ ys) ⊎ (xs ≡ ys → ⊥) → ((x ∷ xs) ≡ (y ∷ ys)) ⊎ ((x ∷ xs) ≡ (y ∷ ys) → ⊥)
    at true e (inl f) = inl (λ i. eqb-true x y e i ∷ f i)
    at true e (inr n) = inr (λ h. n (ap (drop 1) h))
    at false e r = inr (λ h. let g : x ≡ y = cc in let z : true ≡ false = sym (eq-eqb x y g) ∙ e in absurd (cc))

same-ends : (a b : Bool) → (a ≡ b) ⊎ (a ≡ b → ⊥)
same-ends true true = inl refl
same-ends false false = inl refl
same-ends true false = inr (λ h. absurd (cc))
same-ends false true = inr (λ h. absurd (cc))

same-sets : (s t : PlaceSet) → (s ≡ t) ⊎ (s ≡ t → ⊥)
same-sets s t = at (same-lists s.places t.places) (same-ends s.ends t.ends)
  where
    at : (s.places ≡ t.places) ⊎ (s.places ≡ t.places → ⊥) → (s.ends ≡ t.ends) ⊎ (s.ends ≡ t.ends → ⊥) → (s ≡ t) ⊎ (s ≡ t → ⊥)
    at (inl p) (inl e) = inl (λ i. record { places = p i; ends = e i })
    at (inl p) (inr n) = inr (λ h. n (ap (λ u. u.ends) h))
    at (inr n) e = inr (λ h. n (ap (λ u. u.places) h))

-- ---- where a state stands among others

record Stands (ss : List PlaceSet) (t : PlaceSet) : Type 0 where
  place : ℕ
  inside : place < length ss
  is : set_at ss place ≡ t

stands-or : (t : PlaceSet) (ss : List PlaceSet) → Stands ss t ⊎ Apart t ss
stands-or t [] = inr tt
stands-or t (s ∷ ss) = at (same-sets t s) (stands-or t ss)
  where
    at : (t ≡ s) ⊎ (t ≡ s → ⊥) → Stands ss t ⊎ Apart t ss → Stands (s ∷ ss) t ⊎ Apart t (s ∷ ss)
    at (inl e) r = inl (record { place = 0; inside = omega arith; is = sym e })
    at (inr n) (inl m) = inl (record { place = suc m.place; inside = omega (arith, m.inside); is = m.is })
    at (inr n) (inr a) = inr (n, a)

-- ---- a type that comes first is one of the types

rest-or : (b x y : Bool) → (x ≡ true → y ≡ true) → b || x ≡ true → b || y ≡ true
rest-or true x y f h = refl
rest-or false x y f h = f h

of-once : (seen ks : List ℕ) (k : ℕ) → has k (once seen ks) ≡ true → has k ks ≡ true
of-once seen [] k h = h
of-once seen (j ∷ ks) k h = at (has j seen) (of-once seen ks k) (of-once (seen ++ j ∷ []) ks k) h
  where
    at : (b : Bool) → (has k (once seen ks) ≡ true → has k ks ≡ true) → (has k (once (seen ++ j ∷ []) ks) ≡ true → has k ks ≡ true)
        → has k (cond b (once seen ks) (j ∷ once (seen ++ j ∷ []) ks)) ≡ true → eqb j k || has k ks ≡ true
    at true f g h = rw (f h) (or-right (eqb j k))
    at false f g h = rest-or (eqb j k) (has k (once (seen ++ j ∷ []) ks)) (has k ks) g h

-- and each of the types that was not seen comes first
unseen : (seen : List ℕ) (j k : ℕ) → eqb j k ≡ false → has k seen ≡ false → has k (seen ++ j ∷ []) ≡ false
unseen [] j k e h = rw e refl
unseen (s ∷ seen) j k e h = at (eqb s k) refl (unseen seen j k e)
  where
    at : (b : Bool) → eqb s k ≡ b → (has k seen ≡ false → has k (seen ++ j ∷ []) ≡ false) → eqb s k || has k (seen ++ j ∷ []) ≡ false
    at true q f = absurd (let z : true || has k seen ≡ false = subst (λ (b : Bool). b || has k seen ≡ false) q h in cc)
    at false q f = rw q (f (subst (λ (b : Bool). b || has k seen ≡ false) q h))

to-once : (seen ks : List ℕ) (k : ℕ) → has k seen ≡ false → has k ks ≡ true → has k (once seen ks) ≡ true
to-once seen [] k n h = h
to-once seen (j ∷ ks) k n h = at (has j seen) (eqb j k) refl refl (to-once seen ks k n) (to-once (seen ++ j ∷ []) ks k)
  where
    at : (b c : Bool) → has j seen ≡ b → eqb j k ≡ c → (has k ks ≡ true → has k (once seen ks) ≡ true)
        → (has k (seen ++ j ∷ []) ≡ false → has k ks ≡ true → has k (once (seen ++ j ∷ []) ks) ≡ true)
        → has k (cond (has j seen) (once seen ks) (j ∷ once (seen ++ j ∷ []) ks)) ≡ true
    at true true p q f g = absurd (let z : has k seen ≡ true = subst (λ (i : ℕ). has i seen ≡ true) (eqb-true j k q) p in let t : true ≡ false = sym z ∙ n in cc)
    at true false p q f g = rw p (f (subst (λ (b : Bool). b || has k ks ≡ true) q h))
    at false true p q f g = rw (p, q) refl
    at false false p q f g = rw (p, q) (g (unseen seen j k q n) (subst (λ (b : Bool). b || has k ks ≡ true) q h))

-- a list that leads to a state, and one type more
one-on : (rs : List Row) (s t : PlaceSet) (k : ℕ) → has k (kinds rs t.places) ≡ true → (w : List ℕ) → Leads_to rs s w t → (v : List ℕ) × Leads_to rs s v (step rs k t)
one-on rs s t k e [] h = (k ∷ [], (subst (λ (u : PlaceSet). has k (kinds rs u.places) ≡ true) (sym h) e, ap (step rs k) h))
one-on rs s t k e (j ∷ w) h = let r = one-on rs (step rs j s) t k e w h.1 in (j ∷ r.0, (h.0, r.1))

-- ---- each state found so far has its edges, or a state is wanting

module _ (rs : List Row) (ss : List PlaceSet) where
  record Edges (s : PlaceSet) (ks : List ℕ) : Type 0 where
    edges : List Edge
    types : edge_kinds edges ≡ ks
    lead : Lead_on rs ss s edges

  record Wants (s : PlaceSet) (ks : List ℕ) : Type 0 where
    kind : ℕ
    listed : has kind ks ≡ true
    apart : Apart (step rs kind s) ss

  edges-or : (s : PlaceSet) (ks : List ℕ) → Edges s ks ⊎ Wants s ks
  edges-or s [] = inl (record { edges = []; types = refl; lead = tt })
  edges-or s (k ∷ ks) = at (stands-or (step rs k s) ss) (edges-or s ks)
    where
      at : Stands ss (step rs k s) ⊎ Apart (step rs k s) ss → Edges s ks ⊎ Wants s ks → Edges s (k ∷ ks) ⊎ Wants s (k ∷ ks)
      at (inr a) r = inr (record { kind = k; listed = rw (eq-eqb k k refl) refl; apart = a })
      at (inl m) (inl e) = inl (record { edges = record { kind = k; to = m.place } ∷ e.edges; types = ap (λ js. k ∷ js) e.types; lead = ((m.inside, m.is), e.lead) })
      at (inl m) (inr w) = inr (record { kind = w.kind; listed = rw w.listed (or-right (eqb k w.kind)); apart = w.apart })

  record AllLinked (ts : List PlaceSet) : Type 0 where
    edges : List (List Edge)
    full : length edges ≡ length ts
    all : All_edges rs ss ts edges

  record Missing (start : PlaceSet) : Type 0 where
    state : PlaceSet
    reached : (w : List ℕ) × Leads_to rs start w state
    apart : Apart state ss

  linked-or : (start : PlaceSet) (ts : List PlaceSet) → All_reached rs start ts → AllLinked ts ⊎ Missing start
  linked-or start [] r = inl (record { edges = []; full = refl; all = tt })
  linked-or start (t ∷ ts) r = at (edges-or t (once [] (kinds rs t.places))) (linked-or start ts r.1)
    where
      at : Edges t (once [] (kinds rs t.places)) ⊎ Wants t (once [] (kinds rs t.places)) → AllLinked ts ⊎ Missing start → AllLinked (t ∷ ts) ⊎ Missing start
      at (inl e) (inl a) = inl (record { edges = e.edges ∷ a.edges; full = ap suc a.full; all = (record { types = e.types; lead = e.lead }, a.all) })
      at (inl e) (inr m) = inr m
      at (inr w) a = inr (record {
        state = step rs w.kind t;
        reached = one-on rs start t w.kind (of-once [] (kinds rs t.places) w.kind w.listed) r.0.0 r.0.1;
        apart = w.apart;
      })

-- ---- the search

module _ (rs : List Row) (start : PlaceSet) where
  abbrev pub Automaton : Type 0
  Automaton = (a : Auto) × Is_automaton rs start a

  -- the states that were found besides the start
  record Explored (rest : List PlaceSet) : Type 0 where
    reached : All_reached rs start rest
    apart : Apart start rest
    differ : Differ rest

  complete : (rest : List PlaceSet) → length rest ≤ 999 → Explored rest → AllLinked rs (start ∷ rest) (start ∷ rest) → Automaton
  complete rest l x a = (
    record { sets = start ∷ rest; edges = a.edges; some = omega arith; full = a.full; graph = edges-graph rs (start ∷ rest) (start ∷ rest) a.edges a.all },
    record { some = omega arith; begins = refl; reached = (([], refl), x.reached); differ = (x.apart, x.differ); edges = a.all; full = a.full; few = omega (arith, l) },
  )

  one-more : (rest : List PlaceSet) → Explored rest → (m : Missing rs (start ∷ rest) start) → Explored (m.state ∷ rest)
  one-more rest x m = record { reached = (m.reached, x.reached); apart = ((λ e. m.apart.0 (sym e)), x.apart); differ = (m.apart.1, x.differ) }

  search : (n : ℕ) (rest : List PlaceSet) → length rest + n ≡ 999 → Explored rest → Automaton ⊎ Too_many rs start
  search zero rest l x = at (linked-or rs (start ∷ rest) start (start ∷ rest) (([], refl), x.reached))
    where
      at : AllLinked rs (start ∷ rest) (start ∷ rest) ⊎ Missing rs (start ∷ rest) start → Automaton ⊎ Too_many rs start
      at (inl a) = inl (complete rest (omega (arith, l)) x a)
      at (inr m) = inr (record { states = m.state ∷ start ∷ rest; reached = (m.reached, (([], refl), x.reached)); differ = (m.apart, (x.apart, x.differ)); many = omega (arith, l) })
  search (suc n) rest l x = at (linked-or rs (start ∷ rest) start (start ∷ rest) (([], refl), x.reached)) (search n)
    where
      at : AllLinked rs (start ∷ rest) (start ∷ rest) ⊎ Missing rs (start ∷ rest) start → ((more : List PlaceSet) → length more + n ≡ 999 → Explored more → Automaton ⊎ Too_many rs start)
          → Automaton ⊎ Too_many rs start
      at (inl a) go = inl (complete rest (omega (arith, l)) x a)
      at (inr m) go = go (m.state ∷ rest) (omega (arith, l)) (one-more rest x m)

  pub auto-or : Automaton ⊎ Too_many rs start
  auto-or = search 999 [] (omega arith) (record { reached = tt; apart = tt; differ = tt })

-- ---- never both

abbrev cut : List PlaceSet → ℕ → List PlaceSet
cut [] i = []
cut (s ∷ ss) zero = ss
cut (s ∷ ss) (suc i) = s ∷ cut ss i

cut-long : (ss : List PlaceSet) (i : ℕ) → i < length ss → length ss ≡ suc (length (cut ss i))
cut-long [] i l = absurd (omega (arith, l))
cut-long (s ∷ ss) zero l = refl
cut-long (s ∷ ss) (suc i) l = ap suc (cut-long ss i (omega (arith, l)))

-- what stands beside the one that is cut out stands there still
cut-stands : (ss : List PlaceSet) (i j : ℕ) (t u : PlaceSet) → i < length ss → set_at ss i ≡ t → (t ≡ u → ⊥) → j < length ss → set_at ss j ≡ u → Stands (cut ss i) u
cut-stands [] i j t u l e n m f = absurd (omega (arith, l))
cut-stands (s ∷ ss) zero zero t u l e n m f = absurd (n (sym e ∙ f))
cut-stands (s ∷ ss) zero (suc j) t u l e n m f = record { place = j; inside = omega (arith, m); is = f }
cut-stands (s ∷ ss) (suc i) zero t u l e n m f = record { place = 0; inside = omega arith; is = f }
cut-stands (s ∷ ss) (suc i) (suc j) t u l e n m f = next (cut-stands ss i j t u (omega (arith, l)) e n (omega (arith, m)) f)
  where
    next : Stands (cut ss i) u → Stands (s ∷ cut ss i) u
    next r = record { place = suc r.place; inside = omega (arith, r.inside); is = r.is }

apart-at : (u : PlaceSet) (us : List PlaceSet) (k : ℕ) → k < length us → Apart u us → u ≡ set_at us k → ⊥
apart-at u [] k l a = absurd (omega (arith, l))
apart-at u (t ∷ us) zero l a = a.0
apart-at u (t ∷ us) (suc k) l a = apart-at u us k (omega (arith, l)) a.1

at-most : (us ss : List PlaceSet) → Differ us → ((k : ℕ) → k < length us → Stands ss (set_at us k)) → length us ≤ length ss
at-most [] ss d f = omega arith
at-most (u ∷ us) ss d f =
    let m = f 0 (omega arith) in
    let h : length us ≤ length (cut ss m.place) = at-most us (cut ss m.place) d.1
    (λ k l. let o = f (suc k) (omega (arith, l)) in cut-stands ss m.place o.place u (set_at us k) m.inside m.is (apart-at u us k l d.0) o.inside o.is) in
    let n = cut-long ss m.place m.inside in
    omega (arith, h, n)

module _ (rs : List Row) (ss : List PlaceSet) (ess : List (List Edge)) (n : length ess ≡ length ss) (h : All_edges rs ss ss ess) where
  reached-stands : (w : List ℕ) (i : ℕ) → i < length ss → (t : PlaceSet) → Leads_to rs (set_at ss i) w t → Stands ss t
  reached-stands [] i l t r = record { place = i; inside = l; is = r }
  reached-stands (k ∷ w) i l t r =
      let es : Edges_of rs ss (set_at ss i) (edges_at ess i) = edges-of-at rs ss ss ess i (omega (arith, n, l)) h in
      let e : has k (edge_kinds (edges_at ess i)) ≡ true = ap (has k) es.types ∙ to-once [] (kinds rs (set_at ss i).places) k refl r.0 in
      let g = lead-target rs ss (set_at ss i) k (edges_at ess i) es.lead e in
      reached-stands w g.to g.inside t (subst (λ (s : PlaceSet). Leads_to rs s w t) (sym g.at) r.1)

  each-stands : 0 < length ss → (ts : List PlaceSet) → All_reached rs (set_at ss 0) ts → (k : ℕ) → k < length ts → Stands ss (set_at ts k)
  each-stands l [] r k i = absurd (omega (arith, i))
  each-stands l (t ∷ ts) r zero i = reached-stands r.0.0 0 l t r.0.1
  each-stands l (t ∷ ts) r (suc k) i = each-stands l ts r.1 k (omega (arith, i))

pub never-both : (rs : List Row) (start : PlaceSet) → Automaton rs start → Too_many rs start → ⊥
never-both rs start a m =
    let all = each-stands rs a.0.sets a.0.edges a.1.full a.1.edges a.1.some m.states (subst (λ (s : PlaceSet). All_reached rs s m.states) (sym a.1.begins) m.reached) in
    let l : length m.states ≤ length a.0.sets = at-most m.states a.0.sets m.differ all in
    omega (arith, l, m.many, a.1.few)
