-- The entries of tables with one entry for each type.
use Rattle.std.proofs.Common.{◌≡◌, ◌⊎◌, ℕ, zero, suc, ◌<◌, ◌≤◌, ◌++◌, List, [], ◌∷◌, length, get_or, refl, ap, ◌∙◌, sym, subst, inl, inr, arith, length-append}
use Rattle.pm_schema.proofs.Orders.{le_or_lt}
use Rattle.pm_auto.specs.declared.expr.Expr.{Expr}
use Rattle.pm_auto.specs.declared.auto.Auto.{Auto}
use Rattle.pm_auto.specs.declared.sets.PlaceSet.{PlaceSet}
use Rattle.pm_auto.specs.Trim.{trimmed}
use Rattle.pm_auto.specs.Table.{rows}
use Rattle.pm_auto.specs.States.{once, kinds}
use Rattle.pm_auto.proofs.AcceptLaws.{accepted-fits, edges-of-at}
use Rattle.pm_schema.specs.declared.spec.NodeSpec.{NodeSpec}
use Rattle.pm_schema.specs.Types.{no_node}
use Rattle.pm_schema.specs.Contents.{starts, Runs, All_run}
use Rattle.pm_schema.specs.Generated.{nth, IsAutoOf, AutosOf}

-- the automaton of a type runs its content
pub all_run-at : (ns : List NodeSpec) (as' : List Auto) (k : ℕ) (d : Auto) → k < length as' → All_run ns as' → Runs (get_or ns k no_node).content (get_or as' k d)
all_run-at [] [] k d l h = absurd (omega arith)
all_run-at [] (a ∷ as') k d l h = absurd h
all_run-at (n ∷ ns) [] k d l h = absurd h
all_run-at (n ∷ ns) (a ∷ as') zero d l h = h.0
all_run-at (n ∷ ns) (a ∷ as') (suc k) d l h = all_run-at ns as' k d (omega arith) h.1

-- the same of a node and an automaton that were read from the tables
pub run-at : (ns : List NodeSpec) (as' : List Auto) (k : ℕ) (n : NodeSpec) (a : Auto) → k < length as' → All_run ns as' → n ≡ get_or ns k n → a ≡ get_or as' k a → Runs n.content a
run-at [] [] k n a l h en ea = absurd (omega arith)
run-at [] (y ∷ as') k n a l h en ea = absurd h
run-at (x ∷ ns) [] k n a l h en ea = absurd h
run-at (x ∷ ns) (y ∷ as') zero n a l h en ea = subst (λ (m : NodeSpec). Runs m.content a) (sym en) (subst (λ (b : Auto). Runs x.content b) (sym ea) h.0)
run-at (x ∷ ns) (y ∷ as') (suc k) n a l h en ea = run-at ns as' k n a (omega arith) h.1 en ea

-- an entry that was read is the one of the place
pub nth-is : (ns : List NodeSpec) (k : ℕ) (n : NodeSpec) → k < length ns → n ≡ get_or ns k n → n ≡ nth ns k
nth-is [] k n l e = absurd (omega arith)
nth-is (x ∷ ns) zero n l e = e
nth-is (x ∷ ns) (suc k) n l e = nth-is ns k n (omega arith) e

-- an automaton that has the states of the content runs it
pub run-auto : (e : Expr) (a : Auto) → IsAutoOf e a → Runs e a
unfolding starts
run-auto e a h =
    let l : 0 < length a.edges = omega (arith, h.full, h.some) in
    record {
      accepts = λ w. accepted-fits e a h w;
      first = (edges-of-at (rows 0 (trimmed e)) a.sets a.sets a.edges 0 l h.edges).types ∙ ap (λ (s : PlaceSet). once [] (kinds (rows 0 (trimmed e)) s.places)) h.begins;
    }

pub all-run : (ns : List NodeSpec) (as' : List Auto) → length as' ≡ length ns → AutosOf ns as' → All_run ns as'
all-run [] [] l h = tt
all-run [] (a ∷ as') l h = absurd (omega (arith, l))
all-run (n ∷ ns) [] l h = absurd (omega (arith, l))
all-run (n ∷ ns) (a ∷ as') l h =
    let z : 0 < suc (length as') = omega arith in
    let m : length as' ≡ length ns = omega (arith, l) in
    (run-auto n.content a (h 0 a z), all-run ns as' m (λ k d i. h (suc k) d (omega (arith, i))))

-- one more automaton at the end
end-at : (xs : List Auto) (a d : Auto) → get_or (xs ++ a ∷ []) (length xs) d ≡ a
end-at [] a d = refl
end-at (x ∷ xs) a d = end-at xs a d

front-at : (xs : List Auto) (a d : Auto) (i : ℕ) → i < length xs → get_or (xs ++ a ∷ []) i d ≡ get_or xs i d
front-at [] a d i l = absurd (omega arith)
front-at (x ∷ xs) a d zero l = refl
front-at (x ∷ xs) a d (suc i) l = front-at xs a d i (omega arith)

pub autos-more : (ns : List NodeSpec) (as' : List Auto) (a : Auto) → IsAutoOf (nth ns (length as')).content a → AutosOf ns as' → AutosOf ns (as' ++ a ∷ [])
autos-more ns as' a h all k d l = at (le_or_lt (length as') k)
  where
    at : (length as' ≤ k) ⊎ (k < length as') → IsAutoOf (nth ns k).content (get_or (as' ++ a ∷ []) k d)
    at (inl m) =
        let n : length (as' ++ a ∷ []) ≡ suc (length as') = rw length-append (omega arith) in
        let z : k ≡ length as' = omega (arith, m, l, n) in
        subst (λ (i : ℕ). IsAutoOf (nth ns i).content (get_or (as' ++ a ∷ []) i d)) (sym z) (subst (λ (b : Auto). IsAutoOf (nth ns (length as')).content b) (sym (end-at as' a d)) h)
    at (inr m) = subst (λ (b : Auto). IsAutoOf (nth ns k).content b) (sym (front-at as' a d k m)) (all k d m)
