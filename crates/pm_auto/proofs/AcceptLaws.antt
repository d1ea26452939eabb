-- An automaton accepts exactly the language of its expression.
use Rattle.std.proofs.Common.{◌≡◌, ℕ, zero, suc, ◌+◌, ◌<◌, ◌≤◌, List, [], ◌∷◌, ◌++◌, length, Bool, true, false, ◌||◌, ◌&&◌, cond, eqb, Some, None, ◌↔◌, refl, ap, sym, ◌∙◌, subst, arith, inl, inr, ◌⊎◌}
use Rattle.std.proofs.lemmas.Bool.{eqb-true, eq-eqb}
use Rattle.pm_auto.specs.declared.places.Row.{Row}
use Rattle.pm_auto.specs.declared.sets.PlaceSet.{PlaceSet}
use Rattle.pm_auto.specs.declared.auto.Edge.{Edge}
use Rattle.pm_auto.specs.declared.auto.Auto.{Auto}
use Rattle.pm_auto.specs.declared.expr.Expr.{Expr}
use Rattle.pm_auto.specs.Core.{Core, when, nullable}
use Rattle.pm_auto.proofs.Orders.{le_or_lt}
use Rattle.pm_auto.specs.Lang.{In}
use Rattle.pm_auto.specs.Expand.{expand}
use Rattle.pm_auto.specs.Trim.{trimmed}
use Rattle.pm_auto.proofs.TrimLaws.{lang-trim, trim-lang}
use Rattle.pm_auto.specs.Table.{rows, firsts}
use Rattle.pm_auto.specs.Runs.{look, next_rows, end_rows, runs_rows, accepts_rows, fits}
use Rattle.pm_auto.specs.Automata.{Is_automaton}
use Rattle.pm_auto.specs.States.{has, in_order, step, start_of, kinds, edge_kinds, set_at, Lead_on, Edges_of, All_edges}
use Rattle.pm_auto.specs.Walks.{target, edges_at, via, accepted}
use Rattle.pm_auto.proofs.OnceLaws.{has-once}
use Rattle.pm_auto.proofs.SetLaws.{or-assoc}
use Rattle.pm_auto.proofs.RunLaws.{accepts-lang, lang-accepts}
use Rattle.pm_auto.proofs.RowLaws.{accepts-same}
use Rattle.pm_auto.proofs.ExprLaws.{in-lang, lang-in}

pub both-ways : (a b : Bool) → (a ≡ true → b ≡ true) → (b ≡ true → a ≡ true) → a ≡ b
both-ways true b f g = sym (f refl)
both-ways false true f g = g refl
both-ways false false f g = refl

pub or-cases : (a b : Bool) → a || b ≡ true → (a ≡ false) → b ≡ true
or-cases true b h e = absurd (cc)
or-cases false b h e = h

pub or-right : (a : Bool) → a || true ≡ true
or-right true = refl
or-right false = refl

pub and-false : (a : Bool) → a && false ≡ false
and-false true = refl
and-false false = refl

-- some number of the list passes the test
abbrev any : (ℕ → Bool) → List ℕ → Bool
any f [] = false
any f (x ∷ xs) = f x || any f xs

any-append : (f : ℕ → Bool) (xs ys : List ℕ) → any f (xs ++ ys) ≡ any f xs || any f ys
any-append f [] ys = refl
any-append f (x ∷ xs) ys = rw (any-append f xs ys) (or-assoc (f x) (any f xs) (any f ys))

any-when : (f : ℕ → Bool) (b : Bool) (xs : List ℕ) → any f (when b xs) ≡ b && any f xs
any-when f true xs = refl
any-when f false xs = refl

any-in : (f : ℕ → Bool) (xs : List ℕ) → any f xs ≡ true → (m : ℕ) × (has m xs ≡ true) × (f m ≡ true)
any-in f [] h = absurd (cc)
any-in f (x ∷ xs) h = at (f x) refl (any-in f xs)
  where
    at : (b : Bool) → f x ≡ b → (any f xs ≡ true → (m : ℕ) × (has m xs ≡ true) × (f m ≡ true)) → (m : ℕ) × (eqb x m || has m xs ≡ true) × (f m ≡ true)
    at true e i = (x, ap (λ z. z || has x xs) (eq-eqb x x refl), e)
    at false e i = let r = i (or-cases (f x) (any f xs) h e) in (r.0, ap (λ z. eqb x r.0 || z) r.1 ∙ or-right (eqb x r.0), r.2)

in-any : (f : ℕ → Bool) (xs : List ℕ) (m : ℕ) → has m xs ≡ true → f m ≡ true → any f xs ≡ true
in-any f [] m h e = absurd (cc)
in-any f (x ∷ xs) m h e = at (eqb x m) refl (in-any f xs m)
  where
    at : (b : Bool) → eqb x m ≡ b → (has m xs ≡ true → f m ≡ true → any f xs ≡ true) → f x || any f xs ≡ true
    at true q i = let z : f x ≡ true = subst (λ (n : ℕ). f n ≡ true) (sym (eqb-true x m q)) e in rw z refl
    at false q i = ap (λ z. f x || z) (i (or-cases (eqb x m) (has m xs) h q) e) ∙ or-right (f x)

has-order : (ns : List ℕ) (n m : ℕ) (rs : List Row) → has m (in_order ns n rs) ≡ true → has m ns ≡ true
has-order ns n m [] h = absurd (cc)
has-order ns n m (r ∷ rs) h = at (has n ns) refl h (has-order ns (suc n) m rs)
  where
    here : (b : Bool) → eqb n m ≡ b → has n ns ≡ true → eqb n m || has m (in_order ns (suc n) rs) ≡ true → (has m (in_order ns (suc n) rs) ≡ true → has m ns ≡ true) → has m ns ≡ true
    here true q e h i = subst (λ (z : ℕ). has z ns ≡ true) (eqb-true n m q) e
    here false q e h i = i (or-cases (eqb n m) (has m (in_order ns (suc n) rs)) h q)

    at : (b : Bool) → has n ns ≡ b → has m (cond b (n ∷ in_order ns (suc n) rs) (in_order ns (suc n) rs)) ≡ true → (has m (in_order ns (suc n) rs) ≡ true → has m ns ≡ true) → has m ns ≡ true
    at true e h i = here (eqb n m) refl e h i
    at false e h i = i h

order-has : (ns : List ℕ) (n m : ℕ) (rs : List Row) → has m ns ≡ true → n ≤ m → m < n + length rs → has m (in_order ns n rs) ≡ true
order-has ns n m [] h l u = absurd (omega arith)
order-has ns n m (r ∷ rs) h l u = at (eqb n m) refl (order-has ns (suc n) m rs h)
  where
    or-either : (b c : Bool) (x : List ℕ) → has m x ≡ true → has m (cond c (n ∷ x) x) ≡ true
    or-either b true x h = ap (λ z. eqb n m || z) h ∙ or-right (eqb n m)
    or-either b false x h = h

    at : (b : Bool) → eqb n m ≡ b → (suc n ≤ m → m < suc n + length rs → has m (in_order ns (suc n) rs) ≡ true) → has m (cond (has n ns) (n ∷ in_order ns (suc n) rs) (in_order ns (suc n) rs)) ≡ true
    at true q i = let e : has n ns ≡ true = subst (λ (z : ℕ). has z ns ≡ true) (sym (eqb-true n m q)) h in rw e (ap (λ z. z || has m (in_order ns (suc n) rs)) q)
    at false q i =
        let ne : n ≡ m → ⊥ = λ e. let t : true ≡ false = sym (eq-eqb n m e) ∙ q in cc in
        or-either true (has n ns) (in_order ns (suc n) rs) (i (omega (arith, ne)) (omega arith))

-- a test that no number beyond the rows passes sees no difference between a list and the list in order
any-order : (f : ℕ → Bool) (ns : List ℕ) (rs : List Row) → ((n : ℕ) → length rs ≤ n → f n ≡ false) → any f (in_order ns 0 rs) ≡ any f ns
any-order f ns rs out = both-ways (any f (in_order ns 0 rs)) (any f ns)
    (λ h. let r = any-in f (in_order ns 0 rs) h in in-any f ns r.0 (has-order ns 0 r.0 rs r.1) r.2)
    (λ h. let r = any-in f ns h in in-any f (in_order ns 0 rs) r.0 (order-has ns 0 r.0 rs r.1 (omega arith) (inside r.0 r.2)) r.2)
  where
    inside : (n : ℕ) → f n ≡ true → n < 0 + length rs
    inside n e = at (le_or_lt (length rs) n)
      where
        at : (length rs ≤ n) ⊎ (n < length rs) → n < 0 + length rs
        at (inl l) = absurd (let t : true ≡ false = sym e ∙ out n l in cc)
        at (inr l) = omega arith

-- the list leads from a place of the type to an end
abbrev goes : List Row → ℕ → List ℕ → ℕ → Bool
goes rs k [] n = eqb (look rs n).kind k && (look rs n).ends
goes rs k (j ∷ v) n = eqb (look rs n).kind k && any (goes rs j v) (look rs n).follow

look-past : (rs : List Row) (n : ℕ) → length rs ≤ n → look rs n ≡ record { kind = 0; follow = []; ends = false }
look-past [] n h = refl
look-past (r ∷ rs) zero h = absurd (omega arith)
look-past (r ∷ rs) (suc n) h = look-past rs n (omega arith)

goes-past : (rs : List Row) (k : ℕ) (w : List ℕ) (n : ℕ) → length rs ≤ n → goes rs k w n ≡ false
goes-past rs k [] n h = rw (look-past rs n h) (and-false (eqb 0 k))
goes-past rs k (j ∷ v) n h = rw (look-past rs n h) (and-false (eqb 0 k))

end-any : (rs : List Row) (k : ℕ) (ns : List ℕ) → end_rows rs k ns ≡ any (goes rs k []) ns
end-any rs k [] = refl
end-any rs k (n ∷ ns) = rw (end-any rs k ns) refl

next-any : (rs : List Row) (k j : ℕ) (v : List ℕ) (ns : List ℕ) → any (goes rs j v) (next_rows rs k ns) ≡ any (goes rs k (j ∷ v)) ns
next-any rs k j v [] = refl
next-any rs k j v (n ∷ ns) =
    any-append (goes rs j v) (when (eqb (look rs n).kind k) (look rs n).follow) (next_rows rs k ns)
    ∙ rw (any-when (goes rs j v) (eqb (look rs n).kind k) (look rs n).follow, next-any rs k j v ns) refl

runs-any : (rs : List Row) (k : ℕ) (w : List ℕ) (ns : List ℕ) (b : Bool) → runs_rows rs ns b (k ∷ w) ≡ any (goes rs k w) ns
runs-any rs k [] ns b = end-any rs k ns
runs-any rs k (j ∷ v) ns b = runs-any rs j v (next_rows rs k ns) (end_rows rs k ns) ∙ next-any rs k j v ns

-- a run over states
abbrev pub run_sets : List Row → PlaceSet → List ℕ → Bool
run_sets rs s [] = s.ends
run_sets rs s (k ∷ w) = run_sets rs (step rs k s) w

sets-any : (rs : List Row) (k : ℕ) (w : List ℕ) (s : PlaceSet) → run_sets rs s (k ∷ w) ≡ any (goes rs k w) s.places
sets-any rs k [] s = end-any rs k s.places
sets-any rs k (j ∷ v) s =
    sets-any rs j v (step rs k s) ∙ any-order (goes rs j v) (next_rows rs k s.places) rs (goes-past rs j v) ∙ next-any rs k j v s.places

start-runs : (e : Core) (w : List ℕ) → run_sets (rows 0 e) (start_of e) w ≡ accepts_rows e w
start-runs e [] = refl
start-runs e (k ∷ w) =
    sets-any (rows 0 e) k w (start_of e) ∙ any-order (goes (rows 0 e) k w) (firsts 0 e) (rows 0 e) (goes-past (rows 0 e) k w)
    ∙ sym (runs-any (rows 0 e) k w (firsts 0 e) (nullable e))

-- after a type that isn't at hand nothing is left
order-none : (n : ℕ) (rs : List Row) → in_order [] n rs ≡ []
order-none n [] = refl
order-none n (r ∷ rs) = order-none (suc n) rs

run-none : (rs : List Row) (w : List ℕ) → run_sets rs record { places = []; ends = false } w ≡ false
run-none rs [] = refl
run-none rs (k ∷ w) = rw (order-none 0 rs) (run-none rs w)

step-none : (rs : List Row) (k : ℕ) (ns : List ℕ) → has k (kinds rs ns) ≡ false → (next_rows rs k ns ≡ []) × (end_rows rs k ns ≡ false)
step-none rs k [] h = (refl, refl)
step-none rs k (n ∷ ns) h = at (eqb (look rs n).kind k) refl (step-none rs k ns)
  where
    at : (b : Bool) → eqb (look rs n).kind k ≡ b → (has k (kinds rs ns) ≡ false → (next_rows rs k ns ≡ []) × (end_rows rs k ns ≡ false))
        → (when (eqb (look rs n).kind k) (look rs n).follow ++ next_rows rs k ns ≡ []) × ((eqb (look rs n).kind k && (look rs n).ends) || end_rows rs k ns ≡ false)
    at true q i = absurd (let t : true || has k (kinds rs ns) ≡ false = subst (λ (b : Bool). b || has k (kinds rs ns) ≡ false) q h in cc)
    at false q i = let r = i (subst (λ (b : Bool). b || has k (kinds rs ns) ≡ false) q h) in rw q (r.0, r.1)

run-dead : (rs : List Row) (k : ℕ) (s : PlaceSet) (w : List ℕ) → has k (kinds rs s.places) ≡ false → run_sets rs (step rs k s) w ≡ false
run-dead rs k s w h = let r = step-none rs k s.places h in rw (r.0, r.1, order-none 0 rs) (run-none rs w)

-- where an edge leads
pub record Target (rs : List Row) (ss : List PlaceSet) (s : PlaceSet) (k : ℕ) (es : List Edge) : Type 0 where
  pub to : ℕ
  pub is : target k es ≡ Some to
  pub inside : to < length ss
  pub at : set_at ss to ≡ step rs k s

target-hit : (k : ℕ) (x : Edge) (es : List Edge) → eqb x.kind k ≡ true → target k (x ∷ es) ≡ Some x.to
target-hit k x es q = rw q refl

target-skip : (k : ℕ) (x : Edge) (es : List Edge) → eqb x.kind k ≡ false → target k (x ∷ es) ≡ target k es
target-skip k x es q = rw q refl

pub lead-target : (rs : List Row) (ss : List PlaceSet) (s : PlaceSet) (k : ℕ) (es : List Edge) → Lead_on rs ss s es → has k (edge_kinds es) ≡ true → Target rs ss s k es
lead-target rs ss s k [] h e = absurd (cc)
lead-target rs ss s k (x ∷ es) h e = at (eqb x.kind k) refl (lead-target rs ss s k es h.1)
  where
    at : (b : Bool) → eqb x.kind k ≡ b → (has k (edge_kinds es) ≡ true → Target rs ss s k es) → Target rs ss s k (x ∷ es)
    at true q i = record { to = x.to; is = target-hit k x es q; inside = h.0.0; at = h.0.1 ∙ ap (λ (j : ℕ). step rs j s) (eqb-true x.kind k q) }
    at false q i = let t = i (or-cases (eqb x.kind k) (has k (edge_kinds es)) e q) in record { to = t.to; is = target-skip k x es q ∙ t.is; inside = t.inside; at = t.at }

pub no-target : (k : ℕ) (es : List Edge) → has k (edge_kinds es) ≡ false → target k es ≡ None
no-target k [] e = refl
no-target k (x ∷ es) e = at (eqb x.kind k) refl (no-target k es)
  where
    at : (b : Bool) → eqb x.kind k ≡ b → (has k (edge_kinds es) ≡ false → target k es ≡ None) → cond (eqb x.kind k) (Some x.to) (target k es) ≡ None
    at true q i = absurd (let t : true || has k (edge_kinds es) ≡ false = subst (λ (b : Bool). b || has k (edge_kinds es) ≡ false) q e in cc)
    at false q i = rw q (i (subst (λ (b : Bool). b || has k (edge_kinds es) ≡ false) q e))

pub edges-of-at : (rs : List Row) (ss ts : List PlaceSet) (ess : List (List Edge)) (i : ℕ) → i < length ess → All_edges rs ss ts ess → Edges_of rs ss (set_at ts i) (edges_at ess i)
edges-of-at rs ss ts [] i l h = absurd (omega arith)
edges-of-at rs ss [] (es ∷ ess) i l h = absurd h
edges-of-at rs ss (t ∷ ts) (es ∷ ess) zero l h = h.0
edges-of-at rs ss (t ∷ ts) (es ∷ ess) (suc i) l h = edges-of-at rs ss ts ess i (omega arith) h.1

-- the walk along edges is the run over states
pub walk-run : (rs : List Row) (ss : List PlaceSet) (ess : List (List Edge)) → length ess ≡ length ss → All_edges rs ss ss ess → (w : List ℕ) (i : ℕ) → i < length ss → accepted ss ess i w ≡ run_sets rs (set_at ss i) w
walk-run rs ss ess n h [] i l = refl
walk-run rs ss ess n h (k ∷ w) i l = at (has k (kinds rs (set_at ss i).places)) refl (walk-run rs ss ess n h w)
  where
    es : Edges_of rs ss (set_at ss i) (edges_at ess i)
    es = edges-of-at rs ss ss ess i (omega (arith, n)) h

    same : has k (edge_kinds (edges_at ess i)) ≡ has k (kinds rs (set_at ss i).places)
    same = ap (has k) es.types ∙ has-once k (kinds rs (set_at ss i).places) []

    at : (b : Bool) → has k (kinds rs (set_at ss i).places) ≡ b → ((j : ℕ) → j < length ss → accepted ss ess j w ≡ run_sets rs (set_at ss j) w)
        → via (λ t. accepted ss ess t w) (target k (edges_at ess i)) ≡ run_sets rs (step rs k (set_at ss i)) w
    at true q go = let t = lead-target rs ss (set_at ss i) k (edges_at ess i) es.lead (same ∙ q) in rw t.is (go t.to t.inside ∙ rw t.at refl)
    at false q go = rw (no-target k (edges_at ess i) (same ∙ q)) (sym (run-dead rs k (set_at ss i) w q))

pub accepted-fits : (x : Expr) (a : Auto) → Is_automaton (rows 0 (trimmed x)) (start_of (trimmed x)) a → (w : List ℕ) → accepted a.sets a.edges 0 w ≡ fits x w
accepted-fits x a h w = walk-run (rows 0 (trimmed x)) a.sets a.edges h.full h.edges w 0 h.some ∙ rw h.begins (start-runs (trimmed x) w)

-- the Bool that decides the language
pub fits-in : (x : Expr) (w : List ℕ) → fits x w ≡ true → In x w
fits-in x w h = lang-in x w (trim-lang (expand x) w (accepts-lang (trimmed x) w (sym (accepts-same (trimmed x) w) ∙ h)))

pub in-fits : (x : Expr) (w : List ℕ) → In x w → fits x w ≡ true
in-fits x w h = accepts-same (trimmed x) w ∙ lang-accepts (trimmed x) w (lang-trim (expand x) w (in-lang x w h))

pub fits-is : (x : Expr) (w : List ℕ) → (fits x w ≡ true) ↔ In x w
fits-is x w = (fits-in x w, in-fits x w)

-- an automaton accepts exactly the language of its expression
pub accepted-in : (x : Expr) (a : Auto) → Is_automaton (rows 0 (trimmed x)) (start_of (trimmed x)) a → (w : List ℕ) → (accepted a.sets a.edges 0 w ≡ true) ↔ In x w
accepted-in x a h w = (λ e. fits-in x w (sym (accepted-fits x a h w) ∙ e), λ i. accepted-fits x a h w ∙ in-fits x w i)
