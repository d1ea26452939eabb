-- What stands in a node: the content expression's language, and the automaton that runs it.
use Rattle.std.specs.Prelude.{◌≡◌, ℕ, List, [], ◌∷◌}
use Rattle.std.specs.Coded.{×_prop, Coded-set, coded_bool, coded_list, coded_ℕ}
use Rattle.pm_auto.specs.declared.expr.Expr.{Expr}
use Rattle.pm_auto.specs.declared.auto.Auto.{Auto}
use Rattle.pm_auto.specs.Trim.{trimmed}
use Rattle.pm_auto.specs.Table.{rows}
use Rattle.pm_auto.specs.Runs.{fits}
use Rattle.pm_auto.specs.States.{start_of, kinds, once, edge_kinds}
use Rattle.pm_auto.specs.Walks.{accepted, edges_at}
use Rattle.pm_schema.specs.declared.spec.NodeSpec.{NodeSpec}

-- the types that may stand first, each once, in the order of their first places
unfoldable pub starts : Expr → List ℕ
starts e = once [] (kinds (rows 0 (trimmed e)) (start_of (trimmed e)).places)

-- the automaton runs the expression: a list leads to a valid end exactly where it fits, and the start has an edge for each
-- type that may stand first
pub record Runs (e : Expr) (a : Auto) : Type 0 where
  pub accepts : (w : List ℕ) → accepted a.sets a.edges 0 w ≡ fits e w
  pub first : edge_kinds (edges_at a.edges 0) ≡ starts e

-- each automaton runs its type's content
abbrev pub All_run : List NodeSpec → List Auto → Type 0
All_run [] [] = Unit {0}
All_run [] (a ∷ as') = ⊥
All_run (n ∷ ns) [] = ⊥
All_run (n ∷ ns) (a ∷ as') = Runs n.content a × All_run ns as'

-- that is a fact: there is at most one proof of it
run-prop : (e : Expr) (a : Auto) → IsProp (Runs e a)
run-prop e a = hlevel (Coded-set coded_bool, Coded-set (coded_list coded_ℕ))

pub all_run-prop : (ns : List NodeSpec) (as' : List Auto) → IsProp (All_run ns as')
all_run-prop [] [] = hlevel
all_run-prop [] (a ∷ as') = hlevel
all_run-prop (n ∷ ns) [] = hlevel
all_run-prop (n ∷ ns) (a ∷ as') = ×_prop (run-prop n.content a) (all_run-prop ns as')
