use Rattle.std.proofs.Common.{◌≡◌, length, List, Bool}
use Rattle.pm_auto.specs.Graph.{Is_graph}
use Rattle.pm_auto.specs.Near.{Keeps, All_reach}
use Rattle.pm_auto.proofs.search.sweep.Given as goal

abbrev pub invariant-loop-i : goal.invariant-loop-i
invariant-loop-i l = record {
  size : length l.marks.items ≡ length l.initial.marks.items;
  keeps : Keeps l.initial.marks.items l.marks.items;
  reach : (goals : List Bool) → Is_graph (length l.links) l.links → All_reach l.links goals l.initial.marks.items → All_reach l.links goals l.marks.items;
}
