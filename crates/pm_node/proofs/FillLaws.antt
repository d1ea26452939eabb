-- The fill of a type, which is there and has only types that can be made.
use Rattle.std.proofs.Common.{◌≡◌, ℕ, zero, suc, ◌<◌, List, [], ◌∷◌, length, Bool, true, false, ◌&&◌, refl, ap, ◌∙◌, sym, subst, get_or, arith}
use Rattle.std.specs.Prelude.{Option, Some, None}
use Rattle.std.proofs.lemmas.List.{length-map}
use Rattle.pm_auto.specs.declared.auto.Auto.{Auto}
use Rattle.pm_auto.specs.Graph.{leads, Is_shortest}
use Rattle.pm_auto.specs.Walks.{accepted}
use Rattle.pm_auto.specs.Fills.{makeable, filled}
use Rattle.pm_auto.specs.Finish.{all_can, Finishes}
use Rattle.pm_schema.specs.declared.schema.Schema.{Schema}
use Rattle.pm_schema.specs.Made.{can_be_made}
use Rattle.pm_node.specs.Filled.{IsFill}
use Rattle.pm_auto.proofs.ReachLaws.{leads-ends}

and-first : (b c : Bool) → b && c ≡ true → b ≡ true
and-first true c h = refl
and-first false c h = absurd (cc)

-- a fill has only types that can be made
pub fill-made : (can : List Bool) (a : Auto) (w : List ℕ) → IsFill can a w → all_can can w ≡ true
fill-made can a w f = and-first (all_can can w) (accepted a.sets a.edges 0 w) (sym (leads-ends can a w 0 a.some) ∙ f.leads_on)

-- where the start is not stuck, it is absurd that no list leads to a valid end
pub fill-there : (can : List Bool) (a : Auto) → ((Finishes can a 0 → ⊥) → ⊥) → ((w : List ℕ) → leads (makeable can a.edges) (filled a true []) 0 w ≡ false) → ⊥
fill-there can a n none = n (λ f.
    let yes : leads (makeable can a.edges) (filled a true []) 0 f.list ≡ true = leads-ends can a f.list 0 a.some ∙ rw (f.makeable, f.ends) refl in
    let no : leads (makeable can a.edges) (filled a true []) 0 f.list ≡ false = none f.list in
    let z : true ≡ false = sym yes ∙ no in cc)

-- an entry of a list is the same whatever stands for those beyond its end
pub entry-any : {X : Type 0} (xs : List X) (k : ℕ) (x d : X) → k < length xs → x ≡ get_or xs k x → get_or xs k d ≡ x
entry-any [] k x d l e = absurd (omega arith)
entry-any (y ∷ xs) zero x d l e = sym e
entry-any (y ∷ xs) (suc k) x d l e = entry-any xs k x d (omega arith) e

pub same-entry : {X : Type 0} (xs : List X) (k : ℕ) (d e : X) → k < length xs → get_or xs k d ≡ get_or xs k e
same-entry [] k d e l = absurd (omega arith)
same-entry (x ∷ xs) zero d e l = refl
same-entry (x ∷ xs) (suc k) d e l = same-entry xs k d e (omega arith)

true-inside : (can : List Bool) (k : ℕ) → get_or can k false ≡ true → k < length can
true-inside [] k h = absurd (cc)
true-inside (b ∷ can) zero h = omega arith
true-inside (b ∷ can) (suc k) h = let i = true-inside can k h in omega (arith, i)

and-next : (b c : Bool) → b && c ≡ true → c ≡ true
and-next true c h = h
and-next false c h = absurd (cc)

all_can-at : (can : List Bool) (w : List ℕ) (i d : ℕ) → all_can can w ≡ true → i < length w → get_or can (get_or w i d) false ≡ true
all_can-at can [] i d h l = absurd (omega arith)
all_can-at can (k ∷ w) zero d h l = and-first (get_or can k false) (all_can can w) h
all_can-at can (k ∷ w) (suc i) d h l = all_can-at can w i d (and-next (get_or can k false) (all_can can w) h) (omega arith)

-- a type of such a list is one of the schema's
pub kind-inside : (s : Schema) (w : List ℕ) (i k : ℕ) → all_can s.generatable w ≡ true → i < length w → k ≡ get_or w i k → k < length s.spec.nodes
kind-inside s w i k h l e =
    let m = true-inside s.generatable (get_or w i k) (all_can-at s.generatable w i k h l) in
    let n : length s.generatable ≡ length s.spec.nodes = ap length s.makes ∙ length-map s.spec.nodes can_be_made in
    omega (arith, m, n, e)

-- the fill that was found is the type's
pub fill-is : (s : Schema) (a : Auto) (can : List Bool) (start : ℕ) (o : Option (List ℕ)) (w : List ℕ) → can ≡ s.generatable → start ≡ 0 → o ≡ Some w
    → Is_shortest (makeable can a.edges) (filled a true []) start o → IsFill s.generatable a w
fill-is s a can start o w c z is h =
    subst (λ (m : List Bool). IsFill m a w) c (subst (λ (i : ℕ). Is_shortest (makeable can a.edges) (filled a true []) i (Some w)) z (subst (Is_shortest (makeable can a.edges) (filled a true []) start) is h))

pub fill-any : (s : Schema) (k : ℕ) (a d : Auto) (w : List ℕ) → k < length s.spec.nodes → a ≡ get_or s.autos k a → IsFill s.generatable a w → IsFill s.generatable (get_or s.autos k d) w
fill-any s k a d w l e h =
    let m : k < length s.autos = omega (arith, l, s.full) in
    subst (λ (b : Auto). IsFill s.generatable b w) (sym (entry-any s.autos k a d m e)) h

-- no type is without one
pub fill-never-none : (s : Schema) (k : ℕ) (a : Auto) (can : List Bool) (start : ℕ) (o : Option (List ℕ)) → k < length s.spec.nodes → a ≡ get_or s.autos k a → can ≡ s.generatable → start ≡ 0 → o ≡ None
    → Is_shortest (makeable can a.edges) (filled a true []) start o → ⊥
fill-never-none s k a can start o l e c z is h0 =
    let h : Is_shortest (makeable can a.edges) (filled a true []) start None = subst (Is_shortest (makeable can a.edges) (filled a true []) start) is h0 in
    let m : k < length s.autos = omega (arith, l, s.full) in
    let n : (Finishes s.generatable (get_or s.autos k a) 0 → ⊥) → ⊥ = s.never_stuck k a 0 m (get_or s.autos k a).some in
    let n' : (Finishes s.generatable a 0 → ⊥) → ⊥ = subst (λ (b : Auto). (Finishes s.generatable b 0 → ⊥) → ⊥) (sym e) n in
    let g : (w : List ℕ) → leads (makeable s.generatable a.edges) (filled a true []) 0 w ≡ false =
    subst (λ (x : List Bool). (w : List ℕ) → leads (makeable x a.edges) (filled a true []) 0 w ≡ false) c (subst (λ (i : ℕ). (w : List ℕ) → leads (makeable can a.edges) (filled a true []) i w ≡ false) z h) in
    fill-there s.generatable a n' g
