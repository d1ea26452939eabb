-- The automaton of an expression.
use Rattle.std.specs.Prelude.{◌≡◌, ◌<◌, ◌≤◌, List, length}
use Rattle.pm_auto.specs.declared.places.Row.{Row}
use Rattle.pm_auto.specs.declared.sets.PlaceSet.{PlaceSet}
use Rattle.pm_auto.specs.declared.auto.Auto.{Auto}
use Rattle.pm_auto.specs.States.{All_reached, Differ, All_edges, set_at}

-- the automaton of a table of places and a start: its states are those that can be reached, each once, the start first
pub record Is_automaton (rs : List Row) (start : PlaceSet) (a : Auto) : Type 0 where
  pub some : 0 < length a.sets
  pub begins : set_at a.sets 0 ≡ start
  pub reached : All_reached rs start a.sets
  pub differ : Differ a.sets
  pub edges : All_edges rs a.sets a.sets a.edges
  pub full : length a.edges ≡ length a.sets
  pub few : length a.sets ≤ 1000
