-- The list that goes nearer at each step is the shortest.
use Rattle.std.proofs.Common.{◌≡◌, ℕ, zero, suc, ◌+◌, ◌-◌, ◌<◌, ◌≤◌, List, [], ◌∷◌, ◌++◌, length, length-append, append_assoc, get_or, Bool, true, false, ◌||◌, cond, eqb, Option, Some, None, refl, ap, sym, ◌∙◌, subst, arith, inl, inr, ◌⊎◌}
use Rattle.std.proofs.lemmas.Bool.{eqb-true, eq-eqb}
use Rattle.pm_auto.specs.declared.auto.Edge.{Edge}
use Rattle.pm_auto.specs.States.{has, edge_kinds}
use Rattle.pm_auto.specs.Walks.{target, edges_at, via}
use Rattle.pm_auto.specs.Graph.{leads, rank, Before, Shortest, Parted, Inside, Is_graph}
use Rattle.pm_auto.specs.Near.{one_to, wider, near, first_to, nearer, trail}
use Rattle.pm_auto.proofs.Orders.{le_or_lt}
use Rattle.pm_auto.proofs.AcceptLaws.{or-cases, or-right}

get_or-end : {X : Type 0} (xs : List (List X)) (x : List X) → get_or (xs ++ x ∷ []) (length xs) [] ≡ x
get_or-end [] x = refl
get_or-end (y ∷ xs) x = get_or-end xs x

get_or-front : {X : Type 0} (xs ys : List (List X)) (i : ℕ) → i < length xs → get_or (xs ++ ys) i [] ≡ get_or xs i []
get_or-front [] ys i l = absurd (omega arith)
get_or-front (x ∷ xs) ys zero l = refl
get_or-front (x ∷ xs) ys (suc i) l = get_or-front xs ys i (omega arith)

pub graph-at : (n : ℕ) (links : List (List Edge)) (s : ℕ) → Is_graph n links → Parted (edges_at links s) × Inside n (edges_at links s)
graph-at n [] s g = (tt, tt)
graph-at n (es ∷ ess) zero g = g.0
graph-at n (es ∷ ess) (suc s) g = graph-at n ess s g.1

-- one round more
pub length-wider : (m : List Bool) (links : List (List Edge)) (bs : List Bool) → length (wider m links bs) ≡ length links
length-wider m [] bs = refl
length-wider m (es ∷ ess) [] = ap suc (length-wider m ess [])
length-wider m (es ∷ ess) (b ∷ bs) = ap suc (length-wider m ess bs)

pub wider-at : (m : List Bool) (links : List (List Edge)) (bs : List Bool) (s : ℕ) → s < length links → get_or (wider m links bs) s false ≡ get_or bs s false || one_to m (edges_at links s)
wider-at m [] bs s l = absurd (omega arith)
wider-at m (es ∷ ess) [] zero l = refl
wider-at m (es ∷ ess) [] (suc s) l = wider-at m ess [] s (omega arith)
wider-at m (es ∷ ess) (b ∷ bs) zero l = refl
wider-at m (es ∷ ess) (b ∷ bs) (suc s) l = wider-at m ess bs s (omega arith)

-- the link of a type
target-to : (m : List Bool) (k t : ℕ) (es : List Edge) → target k es ≡ Some t → get_or m t false ≡ true → one_to m es ≡ true
target-to m k t [] e h = absurd (cc)
target-to m k t (x ∷ es) e h = at (eqb x.kind k) refl (target-to m k t es)
  where
    at : (b : Bool) → eqb x.kind k ≡ b → (target k es ≡ Some t → get_or m t false ≡ true → one_to m es ≡ true) → get_or m x.to false || one_to m es ≡ true
    at true q i = let r : cond true (Some x.to) (target k es) ≡ Some t = subst (λ (b : Bool). cond b (Some x.to) (target k es) ≡ Some t) q e in
        let u : x.to ≡ t = cc in ap (λ (z : ℕ). get_or m z false || one_to m es) u ∙ rw h refl
    at false q i = let r : cond false (Some x.to) (target k es) ≡ Some t = subst (λ (b : Bool). cond b (Some x.to) (target k es) ≡ Some t) q e in
        ap (λ z. get_or m x.to false || z) (i r h) ∙ or-right (get_or m x.to false)

pub target-inside : (n k t : ℕ) (es : List Edge) → Inside n es → target k es ≡ Some t → t < n
target-inside n k t [] g e = absurd (cc)
target-inside n k t (x ∷ es) g e = at (eqb x.kind k) refl (target-inside n k t es g.1)
  where
    at : (b : Bool) → eqb x.kind k ≡ b → (target k es ≡ Some t → t < n) → t < n
    at true q i = let r : cond true (Some x.to) (target k es) ≡ Some t = subst (λ (b : Bool). cond b (Some x.to) (target k es) ≡ Some t) q e in
        let u : x.to ≡ t = cc in subst (λ (z : ℕ). z < n) u g.0
    at false q i = i (subst (λ (b : Bool). cond b (Some x.to) (target k es) ≡ Some t) q e)

-- a list that leads on begins with a link
record Begun (links : List (List Edge)) (goals : List Bool) (s k : ℕ) (w : List ℕ) : Type 0 where
  to : ℕ
  is : target k (edges_at links s) ≡ Some to
  on : leads links goals to w ≡ true

begun : (links : List (List Edge)) (goals : List Bool) (s k : ℕ) (w : List ℕ) → leads links goals s (k ∷ w) ≡ true → Begun links goals s k w
begun links goals s k w h = at (target k (edges_at links s)) refl
  where
    at : (o : Option ℕ) → target k (edges_at links s) ≡ o → Begun links goals s k w
    at None e = absurd (let t : via (λ t. leads links goals t w) None ≡ true = subst (λ (o : Option ℕ). via (λ t. leads links goals t w) o ≡ true) e h in cc)
    at (Some t) e = record { to = t; is = e; on = subst (λ (o : Option ℕ). via (λ t. leads links goals t w) o ≡ true) e h }

-- the first link to a marked node: it stands at or before that of any type that leads to one
abbrev pub Its_link : List Edge → Edge → Type 0
Its_link es f = (target f.kind es ≡ Some f.to) × (has f.kind (edge_kinds es) ≡ true)

link-here : (x : Edge) (es : List Edge) → Its_link (x ∷ es) x
link-here x es = let e : eqb x.kind x.kind ≡ true = eq-eqb x.kind x.kind refl in rw e (refl, refl)

link-later : (x : Edge) (es : List Edge) (f : Edge) → has x.kind (edge_kinds es) ≡ false → Its_link es f → Its_link (x ∷ es) f
link-later x es f p i = skip (eqb x.kind f.kind) refl
  where
    skip : (b : Bool) → eqb x.kind f.kind ≡ b → (cond (eqb x.kind f.kind) (Some x.to) (target f.kind es) ≡ Some f.to) × (eqb x.kind f.kind || has f.kind (edge_kinds es) ≡ true)
    skip true q = absurd (let e : has x.kind (edge_kinds es) ≡ true = subst (λ (z : ℕ). has z (edge_kinds es) ≡ true) (sym (eqb-true x.kind f.kind q)) i.1 in let t : true ≡ false = sym e ∙ p in cc)
    skip false q = rw q (i.0, i.1)

pub first-parted : (m : List Bool) (es : List Edge) → one_to m es ≡ true → Parted es → Its_link es (first_to m es)
first-parted m [] h p = absurd (cc)
first-parted m (x ∷ es) h p = at (get_or m x.to false) refl (first-parted m es)
  where
    at : (b : Bool) → get_or m x.to false ≡ b → (one_to m es ≡ true → Parted es → Its_link es (first_to m es)) → Its_link (x ∷ es) (cond (get_or m x.to false) x (first_to m es))
    at true q i = subst (λ (b : Bool). Its_link (x ∷ es) (cond b x (first_to m es))) (sym q) (link-here x es)
    at false q i = subst (λ (b : Bool). Its_link (x ∷ es) (cond b x (first_to m es))) (sym q) (link-later x es (first_to m es) p.0 (i (or-cases (get_or m x.to false) (one_to m es) h q) p.1))

pub first-marked : (m : List Bool) (es : List Edge) → one_to m es ≡ true → get_or m (first_to m es).to false ≡ true
first-marked m [] h = absurd (cc)
first-marked m (x ∷ es) h = at (get_or m x.to false) refl (first-marked m es)
  where
    at : (b : Bool) → get_or m x.to false ≡ b → (one_to m es ≡ true → get_or m (first_to m es).to false ≡ true) → get_or m (cond (get_or m x.to false) x (first_to m es)).to false ≡ true
    at true q i = rw q q
    at false q i = rw q (i (or-cases (get_or m x.to false) (one_to m es) h q))

-- the link is that of the type, or stands before it
abbrev Ahead : ℕ → ℕ → List Edge → Edge → Type 0
Ahead k t es f = ((f.kind ≡ k) × (f.to ≡ t)) ⊎ (rank f.kind es < rank k es)

ahead-later : (k t : ℕ) (x : Edge) (es : List Edge) (f : Edge) → eqb x.kind k ≡ false → Ahead k t es f → Ahead k t (x ∷ es) f
ahead-later k t x es f q (inl i) = inl i
ahead-later k t x es f q (inr i) = inr (subst (λ (b : Bool). cond (eqb x.kind f.kind) 0 (suc (rank f.kind es)) < cond b 0 (suc (rank k es))) (sym q) (one (eqb x.kind f.kind)))
  where
    one : (b : Bool) → cond b 0 (suc (rank f.kind es)) < suc (rank k es)
    one true = omega arith
    one false = omega (arith, i)

ahead-here : (k t : ℕ) (x : Edge) (es : List Edge) → eqb x.kind k ≡ false → Ahead k t (x ∷ es) x
ahead-here k t x es q = inr (let z : eqb x.kind x.kind ≡ true = eq-eqb x.kind x.kind refl in rw (z, q) (omega arith))

first-before : (m : List Bool) (k t : ℕ) (es : List Edge) → target k es ≡ Some t → get_or m t false ≡ true → Ahead k t es (first_to m es)
first-before m k t [] e h = absurd (cc)
first-before m k t (x ∷ es) e h = at (get_or m x.to false) (eqb x.kind k) refl refl (first-before m k t es)
  where
    at : (a b : Bool) → get_or m x.to false ≡ a → eqb x.kind k ≡ b
        → (target k es ≡ Some t → get_or m t false ≡ true → Ahead k t es (first_to m es))
        → Ahead k t (x ∷ es) (cond (get_or m x.to false) x (first_to m es))
    at true true p q i = let r : cond true (Some x.to) (target k es) ≡ Some t = subst (λ (b : Bool). cond b (Some x.to) (target k es) ≡ Some t) q e in let u : x.to ≡ t = cc in
        subst (λ (b : Bool). Ahead k t (x ∷ es) (cond b x (first_to m es))) (sym p) (inl (eqb-true x.kind k q, u))
    at true false p q i = subst (λ (b : Bool). Ahead k t (x ∷ es) (cond b x (first_to m es))) (sym p) (ahead-here k t x es q)
    at false true p q i = let r : cond true (Some x.to) (target k es) ≡ Some t = subst (λ (b : Bool). cond b (Some x.to) (target k es) ≡ Some t) q e in let u : x.to ≡ t = cc in
        absurd (let z : true ≡ false = sym h ∙ (ap (λ (n : ℕ). get_or m n false) (sym u) ∙ p) in cc)
    at false false p q i = subst (λ (b : Bool). Ahead k t (x ∷ es) (cond b x (first_to m es))) (sym p) (ahead-later k t x es (first_to m es) q (i (subst (λ (b : Bool). cond b (Some x.to) (target k es) ≡ Some t) q e) h))

module _ (links : List (List Edge)) (goals : List Bool) (g : Is_graph (length links) links) where
  -- each list to a goal is found in as many rounds as it has types
  pub leads-near : (w : List ℕ) (s : ℕ) → s < length links → leads links goals s w ≡ true → get_or (near links goals (length w)) s false ≡ true
  leads-near [] s l h = h
  leads-near (k ∷ w) s l h =
      let b = begun links goals s k w h in
      let i : get_or (near links goals (length w)) b.to false ≡ true = leads-near w b.to (target-inside (length links) k b.to (edges_at links s) (graph-at (length links) links s g).1 b.is) b.on in
      wider-at (near links goals (length w)) links (near links goals (length w)) s l
      ∙ ap (λ z. get_or (near links goals (length w)) s false || z) (target-to (near links goals (length w)) k b.to (edges_at links s) b.is i) ∙ or-right (get_or (near links goals (length w)) s false)

  -- a node stays near
  pub near-more : (j n s : ℕ) → s < length links → get_or (near links goals n) s false ≡ true → get_or (near links goals (j + n)) s false ≡ true
  near-more zero n s l h = let z : n ≡ 0 + n = omega arith in subst (λ (i : ℕ). get_or (near links goals i) s false ≡ true) z h
  near-more (suc j) n s l h =
      let z : suc (j + n) ≡ suc j + n = omega arith in
      subst (λ (i : ℕ). get_or (near links goals i) s false ≡ true) z (wider-at (near links goals (j + n)) links (near links goals (j + n)) s l ∙ rw (near-more j n s l h) refl)

  -- where a round changes nothing, none does
  pub near-still : (j n : ℕ) → near links goals (suc n) ≡ near links goals n → near links goals (j + n) ≡ near links goals n
  near-still zero n h = let z : 0 + n ≡ n = omega arith in ap (near links goals) z
  near-still (suc j) n h =
      let z : suc j + n ≡ suc (j + n) = omega arith in
      ap (near links goals) z ∙ ap (λ (m : List Bool). wider m links m) (near-still j n h) ∙ h

  pub none-leads : (n s : ℕ) → s < length links → near links goals (suc n) ≡ near links goals n → get_or (near links goals n) s false ≡ false → (w : List ℕ) → leads links goals s w ≡ false
  none-leads n s l h f w = at (leads links goals s w) refl
    where
      at : (b : Bool) → leads links goals s w ≡ b → leads links goals s w ≡ false
      at false e = e
      at true e =
          let a : get_or (near links goals (n + length w)) s false ≡ true = near-more n (length w) s l (leads-near w s l e) in
          let z : n + length w ≡ length w + n = omega arith in
          let c : get_or (near links goals (length w + n)) s false ≡ get_or (near links goals n) s false = ap (λ (m : List Bool). get_or m s false) (near-still (length w) n h) in
          absurd (let t : true ≡ false = sym a ∙ (ap (λ (i : ℕ). get_or (near links goals i) s false) z ∙ (c ∙ f)) in cc)

  -- the node is n steps from a goal
  pub record Away (n s : ℕ) : Type 0 where
    pub inside : s < length links
    pub found : get_or (near links goals n) s false ≡ true
    pub no_sooner : (m : ℕ) → m < n → get_or (near links goals m) s false ≡ false

  one-step : (n s : ℕ) → Away (suc n) s → one_to (near links goals n) (edges_at links s) ≡ true
  one-step n s a = or-cases (get_or (near links goals n) s false) (one_to (near links goals n) (edges_at links s)) (sym (wider-at (near links goals n) links (near links goals n) s a.inside) ∙ a.found) (a.no_sooner n (omega arith))

  step-link : (n s : ℕ) → Away (suc n) s → target (first_to (near links goals n) (edges_at links s)).kind (edges_at links s) ≡ Some (first_to (near links goals n) (edges_at links s)).to
  step-link n s a = (first-parted (near links goals n) (edges_at links s) (one-step n s a) (graph-at (length links) links s g).0).0

  pub away-next : (n s : ℕ) → Away (suc n) s → Away n (first_to (near links goals n) (edges_at links s)).to
  away-next n s a = record {
    inside = target-inside (length links) (first_to (near links goals n) (edges_at links s)).kind (first_to (near links goals n) (edges_at links s)).to (edges_at links s) (graph-at (length links) links s g).1 (step-link n s a);
    found = first-marked (near links goals n) (edges_at links s) (one-step n s a);
    no_sooner = λ m l. sooner m l (get_or (near links goals m) (first_to (near links goals n) (edges_at links s)).to false) refl;
  }
    where
      sooner : (m : ℕ) → m < n → (b : Bool) → get_or (near links goals m) (first_to (near links goals n) (edges_at links s)).to false ≡ b → get_or (near links goals m) (first_to (near links goals n) (edges_at links s)).to false ≡ false
      sooner m l false e = e
      sooner m l true e = absurd (
          let o : one_to (near links goals m) (edges_at links s) ≡ true = target-to (near links goals m) (first_to (near links goals n) (edges_at links s)).kind (first_to (near links goals n) (edges_at links s)).to (edges_at links s) (step-link n s a) e in
          let f : get_or (near links goals (suc m)) s false ≡ true = wider-at (near links goals m) links (near links goals m) s a.inside ∙ ap (λ z. get_or (near links goals m) s false || z) o ∙ or-right (get_or (near links goals m) s false) in
          let t : true ≡ false = sym f ∙ a.no_sooner (suc m) (omega (arith, l)) in cc)

  pub nearer-leads : (n s : ℕ) → Away n s → leads links goals s (nearer links goals n s) ≡ true
  nearer-leads zero s a = a.found
  nearer-leads (suc n) s a = rw (step-link n s a) (nearer-leads n (first_to (near links goals n) (edges_at links s)).to (away-next n s a))

  pub length-nearer : (n s : ℕ) → length (nearer links goals n s) ≡ n
  length-nearer zero s = refl
  length-nearer (suc n) s = ap suc (length-nearer n (first_to (near links goals n) (edges_at links s)).to)

  -- no list to a goal is shorter
  pub no-shorter : (n s : ℕ) → Away n s → (v : List ℕ) → leads links goals s v ≡ true → n ≤ length v
  no-shorter n s a v h = at (le_or_lt n (length v))
    where
      at : (n ≤ length v) ⊎ (length v < n) → n ≤ length v
      at (inl l) = l
      at (inr l) = absurd (let t : true ≡ false = sym (leads-near v s a.inside h) ∙ a.no_sooner (length v) l in cc)

  -- and one as long is the same or comes later
  pub no-earlier : (n s : ℕ) → Away n s → (v : List ℕ) → leads links goals s v ≡ true → length v ≡ n → (nearer links goals n s ≡ v) ⊎ Before links s (nearer links goals n s) v
  no-earlier zero s a [] h e = inl refl
  no-earlier zero s a (k ∷ v) h e = absurd (omega arith)
  no-earlier (suc n) s a [] h e = absurd (omega arith)
  no-earlier (suc n) s a (k ∷ v) h e =
      let b = begun links goals s k v h in
      let lv : length v ≡ n = omega arith in
      let bi : b.to < length links = target-inside (length links) k b.to (edges_at links s) (graph-at (length links) links s g).1 b.is in
      let m : get_or (near links goals n) b.to false ≡ true = subst (λ (i : ℕ). get_or (near links goals i) b.to false ≡ true) lv (leads-near v b.to bi b.on) in
      at b (first-before (near links goals n) k b.to (edges_at links s) b.is m)
      (λ w. no-earlier n (first_to (near links goals n) (edges_at links s)).to (away-next n s a) v w lv)
    where
      f : Edge
      f = first_to (near links goals n) (edges_at links s)

      on : (nearer links goals n (first_to (near links goals n) (edges_at links s)).to ≡ v) ⊎ Before links (first_to (near links goals n) (edges_at links s)).to (nearer links goals n (first_to (near links goals n) (edges_at links s)).to) v
          → (first_to (near links goals n) (edges_at links s)).kind ≡ k → (nearer links goals (suc n) s ≡ k ∷ v) ⊎ Before links s (nearer links goals (suc n) s) (k ∷ v)
      on (inl q) i = inl (rw (i, q) refl)
      on (inr q) i = inr (inr (i, ((first_to (near links goals n) (edges_at links s)).to, step-link n s a, q)))

      at : (b : Begun links goals s k v)
          → (((first_to (near links goals n) (edges_at links s)).kind ≡ k) × ((first_to (near links goals n) (edges_at links s)).to ≡ b.to)) ⊎ (rank (first_to (near links goals n) (edges_at links s)).kind (edges_at links s) < rank k (edges_at links s))
          → (leads links goals (first_to (near links goals n) (edges_at links s)).to v ≡ true → (nearer links goals n (first_to (near links goals n) (edges_at links s)).to ≡ v) ⊎ Before links (first_to (near links goals n) (edges_at links s)).to (nearer links goals n (first_to (near links goals n) (edges_at links s)).to) v)
          → (nearer links goals (suc n) s ≡ k ∷ v) ⊎ Before links s (nearer links goals (suc n) s) (k ∷ v)
      at b (inl i) go = on (go (ap (λ (z : ℕ). leads links goals z v) i.1 ∙ b.on)) i.0
      at b (inr i) go = inr (inl i)

  pub is-shortest : (n s : ℕ) → Away n s → Shortest links goals s (nearer links goals n s)
  is-shortest n s a = record { leads_on = nearer-leads n s a; least = λ v h. at v h (eq-or-lt (no-shorter n s a v h)) }
    where
      eq-or-lt : {a b : ℕ} → a ≤ b → (b ≡ a) ⊎ (a < b)
      eq-or-lt {a} {b} l = cases (le_or_lt b a)
        where
          cases : (b ≤ a) ⊎ (a < b) → (b ≡ a) ⊎ (a < b)
          cases (inl m) = inl (omega (arith, l, m))
          cases (inr m) = inr m

      on : (v : List ℕ) → length v ≡ n → (nearer links goals n s ≡ v) ⊎ Before links s (nearer links goals n s) v → (nearer links goals n s ≡ v) ⊎ ((length (nearer links goals n s) < length v) ⊎ ((length (nearer links goals n s) ≡ length v) × Before links s (nearer links goals n s) v))
      on v e (inl q) = inl q
      on v e (inr q) = inr (inr (length-nearer n s ∙ sym e, q))

      at : (v : List ℕ) → leads links goals s v ≡ true → (length v ≡ n) ⊎ (n < length v) → (nearer links goals n s ≡ v) ⊎ ((length (nearer links goals n s) < length v) ⊎ ((length (nearer links goals n s) ≡ length v) × Before links s (nearer links goals n s) v))
      at v h (inl e) = on v e (no-earlier n s a v h e)
      at v h (inr l) = inr (inl (subst (λ (z : ℕ). z < length v) (sym (length-nearer n s)) l))

-- the marks that a round leaves out
abbrev pub falses : List Bool → ℕ
falses [] = 0
falses (true ∷ bs) = falses bs
falses (false ∷ bs) = suc (falses bs)

fewer-cons : (b c : Bool) (xs ys : List Bool) → (c ≡ b) ⊎ ((b ≡ false) × (c ≡ true)) → (ys ≡ xs) ⊎ (falses ys < falses xs) → ((c ∷ ys) ≡ (b ∷ xs)) ⊎ (falses (c ∷ ys) < falses (b ∷ xs))
fewer-cons b c xs ys (inl e) (inl f) = inl (rw (e, f) refl)
fewer-cons true c xs ys (inl e) (inr f) = inr (rw e f)
fewer-cons false c xs ys (inl e) (inr f) = inr (rw e (omega arith))
fewer-cons b c xs ys (inr e) (inl f) = inr (rw (e.0, e.1, f) (omega arith))
fewer-cons b c xs ys (inr e) (inr f) = inr (rw (e.0, e.1) (omega arith))

or-grows : (b c : Bool) → (b || c ≡ b) ⊎ ((b ≡ false) × (b || c ≡ true))
or-grows true c = inl refl
or-grows false true = inr (refl, refl)
or-grows false false = inl refl

pub fewer : (m : List Bool) (links : List (List Edge)) (bs : List Bool) → length bs ≡ length links → (wider m links bs ≡ bs) ⊎ (falses (wider m links bs) < falses bs)
fewer m [] [] h = inl refl
fewer m [] (b ∷ bs) h = absurd (omega arith)
fewer m (es ∷ ess) [] h = absurd (omega arith)
fewer m (es ∷ ess) (b ∷ bs) h = fewer-cons b (b || one_to m es) bs (wider m ess bs) (or-grows b (one_to m es)) (fewer m ess bs (omega arith))

pub length-near : (links : List (List Edge)) (goals : List Bool) → length goals ≡ length links → (n : ℕ) → length (near links goals n) ≡ length links
length-near links goals h zero = h
length-near links goals h (suc n) = length-wider (near links goals n) links (near links goals n)

-- the rounds so far, none of which reaches the start
pub record Rounds (links : List (List Edge)) (goals : List Bool) (start : ℕ) (rounds : List (List Bool)) (last : List Bool) : Type 0 where
  pub now : last ≡ near links goals (length rounds)
  pub each : (i : ℕ) → i < length rounds → get_or rounds i [] ≡ near links goals i
  pub not_yet : (i : ℕ) → i < length rounds → get_or (near links goals i) start false ≡ false

pub rounds-more : (links : List (List Edge)) (goals : List Bool) (start : ℕ) (rounds : List (List Bool)) (last next : List Bool) → Rounds links goals start rounds last
    → get_or last start false ≡ false → next ≡ wider last links last → Rounds links goals start (rounds ++ last ∷ []) next
rounds-more links goals start rounds last next r f e =
    let n : length (rounds ++ last ∷ []) ≡ suc (length rounds) = rw length-append (omega arith) in
    record {
      now = e ∙ ap (λ (m : List Bool). wider m links m) r.now ∙ sym (ap (near links goals) n);
      each = λ i l. each i (le_or_lt (length rounds) i) (omega (arith, n, l));
      not_yet = λ i l. not-yet i (le_or_lt (length rounds) i) (omega (arith, n, l));
    }
  where
    each : (i : ℕ) → (length rounds ≤ i) ⊎ (i < length rounds) → i < suc (length rounds) → get_or (rounds ++ last ∷ []) i [] ≡ near links goals i
    each i (inl a) l = let z : i ≡ length rounds = omega (arith, a, l) in rw z (get_or-end rounds last ∙ r.now)
    each i (inr a) l = get_or-front rounds (last ∷ []) i a ∙ r.each i a

    not-yet : (i : ℕ) → (length rounds ≤ i) ⊎ (i < length rounds) → i < suc (length rounds) → get_or (near links goals i) start false ≡ false
    not-yet i (inl a) l = let z : i ≡ length rounds = omega (arith, a, l) in rw z (ap (λ (m : List Bool). get_or m start false) (sym r.now) ∙ f)
    not-yet i (inr a) l = r.not_yet i a

-- the trail along the rounds goes nearer at each step
pub trail-nearer : (links : List (List Edge)) (goals : List Bool) (rounds : List (List Bool)) → ((i : ℕ) → i < length rounds → get_or rounds i [] ≡ near links goals i)
    → (n s : ℕ) → n ≤ length rounds → trail links rounds n s ≡ nearer links goals n s
trail-nearer links goals rounds each zero s l = refl
trail-nearer links goals rounds each (suc n) s l =
    rw (each n (omega arith)) (ap (λ z. (first_to (near links goals n) (edges_at links s)).kind ∷ z) (trail-nearer links goals rounds each n (first_to (near links goals n) (edges_at links s)).to (omega arith)))

module _ (links : List (List Edge)) (goals : List Bool) (g : Is_graph (length links) links) (start : ℕ) (inside : start < length links) (rounds : List (List Bool)) (last : List Bool) (r : Rounds links goals start rounds last) where
  pub found-shortest : get_or last start false ≡ true → Shortest links goals start (trail links rounds (length rounds) start)
  found-shortest t =
      subst (Shortest links goals start) (sym (trail-nearer links goals rounds r.each (length rounds) start (omega arith)))
      (is-shortest links goals g (length rounds) start record { inside = inside; found = ap (λ (m : List Bool). get_or m start false) (sym r.now) ∙ t; no_sooner = r.not_yet })

  pub still-none : get_or last start false ≡ false → wider last links last ≡ last → (w : List ℕ) → leads links goals start w ≡ false
  still-none f e w =
      none-leads links goals g (length rounds) start inside (ap (λ (m : List Bool). wider m links m) (sym r.now) ∙ e ∙ r.now) (ap (λ (m : List Bool). get_or m start false) (sym r.now) ∙ f) w

pub trail-step : (links : List (List Edge)) (rounds : List (List Bool)) (left next node : ℕ) (marks : List Bool) (link : Edge) (list all more : List ℕ)
    → 0 < left → next ≡ left - 1 → next < length rounds → marks ≡ get_or rounds next marks → link ≡ first_to marks (edges_at links node)
    → all ≡ list ++ trail links rounds left node → more ≡ list ++ link.kind ∷ [] → all ≡ more ++ trail links rounds next link.to
trail-step links rounds zero next node marks link list all more l en lr em el ea eb = absurd (omega arith)
trail-step links rounds (suc n) next node marks link list all more l en lr em el ea eb =
    let z : next ≡ n = omega (arith, en) in
    let m : get_or rounds n [] ≡ marks = ap (λ (i : ℕ). get_or rounds i []) (sym z) ∙ same rounds next lr em in
    ea ∙ rw (m, ← el, eb, z) (sym (append_assoc list (link.kind ∷ []) (trail links rounds n link.to)))
  where
    same : (rounds : List (List Bool)) (i : ℕ) → i < length rounds → marks ≡ get_or rounds i marks → get_or rounds i [] ≡ marks
    same [] i l e = absurd (omega arith)
    same (x ∷ xs) zero l e = sym e
    same (x ∷ xs) (suc i) l e = same xs i (omega arith) e
