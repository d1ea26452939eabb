-- The first list of a length that leads to a goal.
use Rattle.std.proofs.Common.{◌≡◌, ℕ, zero, suc, ◌<◌, List, [], ◌∷◌, length, map, get_or, Bool, true, false, cond, eqb, Option, Some, None, ◌⊎◌, inl, inr, refl, ap, sym, ◌∙◌, subst, arith}
use Rattle.std.proofs.lemmas.Bool.{eqb-true, eq-eqb}
use Rattle.std.specs.Option.{option_map, option_or, option_and_then}
use Rattle.pm_auto.specs.declared.auto.Edge.{Edge}
use Rattle.pm_auto.specs.Walks.{target, edges_at, via}
use Rattle.pm_auto.specs.Graph.{leads, rank, Before}
use Rattle.pm_fit.specs.Paths.{first_some, begun_with, first_of_length}

-- ---- the first edge from which a list goes on

module _ (f : ℕ → Option (List ℕ)) where
  abbrev among : List Edge → Option (List ℕ)
  among es = first_some (map (λ e. f e.kind) es)

  -- it is that of one of the types
  among-one : (es : List Edge) (y : List ℕ) → among es ≡ Some y → (k : ℕ) × (f k ≡ Some y)
  among-one [] y h = absurd (cc)
  among-one (e ∷ es) y h = at (f e.kind) refl (among-one es y)
    where
      at : (o : Option (List ℕ)) → f e.kind ≡ o → (among es ≡ Some y → (k : ℕ) × (f k ≡ Some y)) → (k : ℕ) × (f k ≡ Some y)
      at None p i = i (subst (λ (o : Option (List ℕ)). option_or o (among es) ≡ Some y) p h)
      at (Some x) p i = (e.kind, p ∙ subst (λ (o : Option (List ℕ)). option_or o (among es) ≡ Some y) p h)

  -- it stands at or before each type from which one goes on
  record First (es : List Edge) (k : ℕ) : Type 0 where
    kind : ℕ
    list : List ℕ
    is : f kind ≡ Some list
    found : among es ≡ Some list
    order : (rank kind es < rank k es) ⊎ (kind ≡ k)

  first-here : (e : Edge) (es : List Edge) (k : ℕ) (x : List ℕ) → f e.kind ≡ Some x → (eqb e.kind k ≡ false) ⊎ (e.kind ≡ k) → First (e ∷ es) k
  first-here e es k x h o = record { kind = e.kind; list = x; is = h; found = ap (λ z. option_or z (among es)) h; order = place o }
    where
      own : eqb e.kind e.kind ≡ true
      own = eq-eqb e.kind e.kind refl

      place : (eqb e.kind k ≡ false) ⊎ (e.kind ≡ k) → (rank e.kind (e ∷ es) < rank k (e ∷ es)) ⊎ (e.kind ≡ k)
      place (inl q) = inl (rw (own, q) (omega arith))
      place (inr q) = inr q

  first-later : (e : Edge) (es : List Edge) (k : ℕ) → f e.kind ≡ None → eqb e.kind k ≡ false → First es k → First (e ∷ es) k
  first-later e es k h q i = record { kind = i.kind; list = i.list; is = i.is; found = ap (λ z. option_or z (among es)) h ∙ i.found; order = place i.order }
    where
      put : (b : Bool) (m n : ℕ) → m < n → cond b 0 (suc m) < suc n
      put true m n l = omega arith
      put false m n l = omega (arith, l)

      place : (rank i.kind es < rank k es) ⊎ (i.kind ≡ k) → (rank i.kind (e ∷ es) < rank k (e ∷ es)) ⊎ (i.kind ≡ k)
      place (inl l) = inl (rw q (put (eqb e.kind i.kind) (rank i.kind es) (rank k es) l))
      place (inr p) = inr p

  first-among : (es : List Edge) (k t : ℕ) (x : List ℕ) → target k es ≡ Some t → f k ≡ Some x → First es k
  first-among [] k t x e h = absurd (cc)
  first-among (y ∷ es) k t x e h = at (eqb y.kind k) (f y.kind) refl refl (λ p. first-among es k t x p h)
    where
      at : (b : Bool) (o : Option (List ℕ)) → eqb y.kind k ≡ b → f y.kind ≡ o → (target k es ≡ Some t → First es k) → First (y ∷ es) k
      at true o q p i = let same : y.kind ≡ k = eqb-true y.kind k q in first-here y es k x (ap f same ∙ h) (inr same)
      at false (Some z) q p i = first-here y es k z p (inl q)
      at false None q p i = first-later y es k p q (i (subst (λ (b : Bool). cond b (Some y.to) (target k es) ≡ Some t) q e))

-- ---- a list that begins with a type

record Begun (k : ℕ) (on : ℕ → Option (List ℕ)) (es : List Edge) (y : List ℕ) : Type 0 where
  to : ℕ
  rest : List ℕ
  link : target k es ≡ Some to
  goes : on to ≡ Some rest
  list : (k ∷ rest) ≡ y

begun-some : (k : ℕ) (on : ℕ → Option (List ℕ)) (es : List Edge) (y : List ℕ) → begun_with k on es ≡ Some y → Begun k on es y
begun-some k on es y h = at (target k es) refl
  where
    behind : (t : ℕ) (o : Option (List ℕ)) → target k es ≡ Some t → on t ≡ o → option_map (λ w. k ∷ w) o ≡ Some y → Begun k on es y
    behind t None e p i = absurd (cc)
    behind t (Some u) e p i = record { to = t; rest = u; link = e; goes = p; list = let same : (k ∷ u) ≡ y = cc in same }

    at : (o : Option ℕ) → target k es ≡ o → Begun k on es y
    at None e = absurd (let i : option_map (λ w. k ∷ w) (option_and_then on None) ≡ Some y = subst (λ (o : Option ℕ). option_map (λ w. k ∷ w) (option_and_then on o) ≡ Some y) e h in cc)
    at (Some t) e = behind t (on t) e refl (subst (λ (o : Option ℕ). option_map (λ w. k ∷ w) (option_and_then on o) ≡ Some y) e h)

some-begun : (k t : ℕ) (on : ℕ → Option (List ℕ)) (es : List Edge) (u : List ℕ) → target k es ≡ Some t → on t ≡ Some u → begun_with k on es ≡ Some (k ∷ u)
some-begun k t on es u e h = rw (e, h) refl

-- ---- lists of one length

module _ (links : List (List Edge)) (goals : List Bool) where
  -- a list that leads on begins with a link
  pub record Led (s k : ℕ) (w : List ℕ) : Type 0 where
    pub to : ℕ
    pub link : target k (edges_at links s) ≡ Some to
    pub on : leads links goals to w ≡ true

  pub led : (s k : ℕ) (w : List ℕ) → leads links goals s (k ∷ w) ≡ true → Led s k w
  led s k w h = at (target k (edges_at links s)) refl
    where
      at : (o : Option ℕ) → target k (edges_at links s) ≡ o → Led s k w
      at None e = absurd (let t : via (λ t. leads links goals t w) None ≡ true = subst (λ (o : Option ℕ). via (λ t. leads links goals t w) o ≡ true) e h in cc)
      at (Some t) e = record { to = t; link = e; on = subst (λ (o : Option ℕ). via (λ t. leads links goals t w) o ≡ true) e h }

  pub lead : (s k t : ℕ) (w : List ℕ) → target k (edges_at links s) ≡ Some t → leads links goals t w ≡ true → leads links goals s (k ∷ w) ≡ true
  lead s k t w e h = rw e h

  -- the list that is found leads to a goal and has the length
  pub record Sound (n s : ℕ) (y : List ℕ) : Type 0 where
    pub leads_on : leads links goals s y ≡ true
    pub size : length y ≡ n

  pub sound : (n s : ℕ) (y : List ℕ) → first_of_length links goals n s ≡ Some y → Sound n s y
  sound zero s y h = at (get_or goals s false) refl h
    where
      at : (b : Bool) → get_or goals s false ≡ b → cond b (Some []) None ≡ Some y → Sound zero s y
      at false e i = absurd (cc)
      at true e i = let same : [] ≡ y = cc in subst (Sound zero s) same (record { leads_on = e; size = refl })
  sound (suc n) s y h =
      let k = among-one (λ k. begun_with k (first_of_length links goals n) (edges_at links s)) (edges_at links s) y h in
      let b = begun-some k.0 (first_of_length links goals n) (edges_at links s) y k.1 in
      let i = sound n b.to b.rest b.goes in
      subst (Sound (suc n) s) b.list (record { leads_on = lead s k.0 b.to b.rest b.link i.leads_on; size = ap suc i.size })

  -- where a list leads to a goal, one of its length is found, which is the same or comes before
  pub record Found (s : ℕ) (v : List ℕ) : Type 0 where
    pub list : List ℕ
    pub is : first_of_length links goals (length v) s ≡ Some list
    pub order : (list ≡ v) ⊎ Before links s list v

  pub found : (v : List ℕ) (s : ℕ) → leads links goals s v ≡ true → Found s v
  found [] s h = record { list = []; is = rw h refl; order = inl refl }
  found (k ∷ v) s h =
      let l = led s k v h in
      let i = found v l.to l.on in
      let g : ℕ → Option (List ℕ) = λ j. begun_with j (first_of_length links goals (length v)) (edges_at links s) in
      let f = first-among g (edges_at links s) k l.to (k ∷ i.list) l.link (some-begun k l.to (first_of_length links goals (length v)) (edges_at links s) i.list l.link i.is) in
      whole l i f.kind f.list f.found (begun-some f.kind (first_of_length links goals (length v)) (edges_at links s) f.list f.is) f.order
    where
      same : (l : Led s k v) → (u : List ℕ) → (u ≡ v) ⊎ Before links l.to u v → (j : ℕ) → j ≡ k → (r : List ℕ) → r ≡ u → ((j ∷ r) ≡ k ∷ v) ⊎ Before links s (j ∷ r) (k ∷ v)
      same l u (inl p) j e r q = inl (rw (e, q, p) refl)
      same l u (inr p) j e r q = inr (inr (e, (l.to, ap (λ z. target z (edges_at links s)) e ∙ l.link, subst (λ (z : List ℕ). Before links l.to z v) (sym q) p)))

      at : (l : Led s k v) (i : Found l.to v) {j : ℕ} (r : List ℕ) (t : ℕ) → target j (edges_at links s) ≡ Some t → first_of_length links goals (length v) t ≡ Some r
          → (rank j (edges_at links s) < rank k (edges_at links s)) ⊎ (j ≡ k) → ((j ∷ r) ≡ k ∷ v) ⊎ Before links s (j ∷ r) (k ∷ v)
      at l i r t e g (inl p) = inr (inl p)
      at l i {j = j} r t e g (inr p) =
          let there : Some t ≡ Some l.to = sym e ∙ (ap (λ z. target z (edges_at links s)) p ∙ l.link) in
          let to : t ≡ l.to = cc in
          let both : Some r ≡ Some i.list = sym g ∙ (ap (first_of_length links goals (length v)) to ∙ i.is) in
          let rest : r ≡ i.list = cc in
          same l i.list i.order j p r rest

      whole : (l : Led s k v) (i : Found l.to v) (j : ℕ) (y : List ℕ) → first_of_length links goals (suc (length v)) s ≡ Some y → Begun j (first_of_length links goals (length v)) (edges_at links s) y
          → (rank j (edges_at links s) < rank k (edges_at links s)) ⊎ (j ≡ k) → Found s (k ∷ v)
      whole l i j y e b o = record { list = y; is = e; order = subst (λ (z : List ℕ). (z ≡ k ∷ v) ⊎ Before links s z (k ∷ v)) b.list (at l i b.rest b.to b.link b.goes o) }

  -- of two lists not each comes before the other
  pub not-both : (u v : List ℕ) (s : ℕ) → Before links s u v → Before links s v u → ⊥
  not-both [] v s a b = a
  not-both (j ∷ u) [] s a b = a
  not-both (j ∷ u) (k ∷ v) s (inl a) (inl b) = omega (arith, a, b)
  not-both (j ∷ u) (k ∷ v) s (inl a) (inr b) = omega (arith, a, ap (λ z. rank z (edges_at links s)) b.0)
  not-both (j ∷ u) (k ∷ v) s (inr a) (inl b) = omega (arith, b, ap (λ z. rank z (edges_at links s)) a.0)
  not-both (j ∷ u) (k ∷ v) s (inr a) (inr b) =
      let there : Some a.1.0 ≡ Some b.1.0 = sym a.1.1 ∙ (ap (λ z. target z (edges_at links s)) a.0 ∙ b.1.1) in
      let to : a.1.0 ≡ b.1.0 = cc in
      not-both u v b.1.0 (subst (λ (t : ℕ). Before links t u v) to a.1.2) b.1.2
