-- A graph is a fact: there is at most one proof of it.
use Rattle.std.specs.Prelude.{ℕ, List, [], ◌∷◌, false}
use Rattle.std.specs.Coded.{×_prop, Unit-prop, le_prop, Coded-set, coded_bool}
use Rattle.pm_auto.specs.declared.auto.Edge.{Edge}
use Rattle.pm_auto.specs.States.{has, edge_kinds}
use Rattle.pm_auto.specs.Graph.{Parted, Inside, Is_graph}

parted-prop : (es : List Edge) → IsProp (Parted es)
parted-prop [] = Unit-prop
parted-prop (e ∷ es) = ×_prop (Coded-set coded_bool (has e.kind (edge_kinds es)) false) (parted-prop es)

inside-prop : (n : ℕ) (es : List Edge) → IsProp (Inside n es)
inside-prop n [] = Unit-prop
inside-prop n (e ∷ es) = ×_prop le_prop (inside-prop n es)

pub graph-prop : (n : ℕ) (ess : List (List Edge)) → IsProp (Is_graph n ess)
graph-prop n [] = Unit-prop
graph-prop n (es ∷ ess) = ×_prop (×_prop (parted-prop es) (inside-prop n es)) (graph-prop n ess)
