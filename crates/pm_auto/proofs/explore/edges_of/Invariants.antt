use Rattle.std.proofs.Common.{◌≡◌, take, drop, length, []}
use Rattle.pm_auto.specs.States.{Lead_on, Below, edge_kinds, set_at, once, kinds}
use Rattle.pm_auto.specs.Known.{All_known}
use Rattle.pm_auto.specs.Prints.{Are_prints}
use Rattle.pm_auto.specs.Found.{Found, Grows}
use Rattle.pm_auto.specs.Ways.{Are_ways}
use Rattle.pm_auto.proofs.explore.edges_of.Given as goal

abbrev pub invariant-loop-head : goal.invariant-loop-head
invariant-loop-head l =
    Found l.rows l.sets × Grows l.initial.sets l.sets × Lead_on l.rows l.sets (set_at l.initial.sets l.at) l.edges × (edge_kinds l.edges ≡ take l.head-index (once [] (kinds l.rows (set_at l.initial.sets l.at).places))) × All_known l.rows l.sets l.known.states × Below (length l.rows) (drop l.head-index l.head-items) × Are_prints l.sets l.prints × Are_ways l.rows l.sets l.ways
