-- The states of an automaton by the ways to them.
use Rattle.std.specs.Prelude.{◌≡◌, List, [], ◌∷◌, ◌++◌}
use Rattle.pm_auto.specs.declared.places.Row.{Row}
use Rattle.pm_auto.specs.declared.sets.PlaceSet.{PlaceSet}
use Rattle.pm_auto.specs.declared.expr.Expr.{Expr}
use Rattle.pm_auto.specs.declared.states.Way.{Way}
use Rattle.pm_auto.specs.Trim.{trimmed}
use Rattle.pm_auto.specs.Table.{rows}
use Rattle.pm_auto.specs.States.{step, set_at, start_of}

-- these states, and after them one for each way: that after its type, from the state where it begins
abbrev pub led : List Row → List PlaceSet → List Way → List PlaceSet
led rs ss [] = ss
led rs ss (w ∷ ws) = led rs (ss ++ step rs w.kind (set_at ss w.from) ∷ []) ws

-- the states that were found are those to which the ways lead from the first
abbrev pub Are_ways : List Row → List PlaceSet → List Way → Type 0
Are_ways rs ss ws = ss ≡ led rs (set_at ss 0 ∷ []) ws

-- the states of the expression to which the ways lead, the start first
unfoldable pub states_of : Expr → List Way → List PlaceSet
states_of e ws = led (rows 0 (trimmed e)) (start_of (trimmed e) ∷ []) ws
