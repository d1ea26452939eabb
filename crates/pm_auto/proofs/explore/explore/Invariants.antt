use Rattle.std.proofs.Common.{◌≡◌, ◌≤◌, ◌-◌, length}
use Rattle.pm_auto.specs.States.{All_edges, set_at}
use Rattle.pm_auto.specs.Known.{All_known}
use Rattle.pm_auto.specs.Prints.{Are_prints}
use Rattle.pm_auto.specs.Found.{Found}
use Rattle.pm_auto.specs.Ways.{Are_ways}
use Rattle.pm_auto.proofs.explore.explore.Given as goal

abbrev pub invariant-states : goal.invariant-states
invariant-states l = Found l.rows l.sets × (set_at l.sets 0 ≡ l.fn.start) × All_edges l.rows l.sets l.sets l.edges × (length l.edges ≤ length l.sets) × All_known l.rows l.sets l.known.states × Are_prints l.sets l.prints × Are_ways l.rows l.sets l.ways

abbrev pub decreases-states : goal.decreases-states
decreases-states l = 1000 - length l.edges
