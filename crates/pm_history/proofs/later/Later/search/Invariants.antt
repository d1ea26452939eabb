use Rattle.std.proofs.Common.{◌+◌, ◌%◌, length}
use Rattle.std.proofs.Common.{Some}
use Rattle.pm_history.specs.Laters.{items_of}
use Rattle.pm_history.proofs.Tables.{Reaches, left_of}
use Rattle.pm_history.proofs.later.Later.search.Given as goal

abbrev pub invariant-loop-at : goal.invariant-loop-at
invariant-loop-at g l =
    let size = length l.undoers.nearest.items in
    Reaches (Some l.fn.name) size (l.fn.name.serial % size) (l.i + 1) l.item.map (items_of l.self) l.at

abbrev pub decreases-loop-at : goal.decreases-loop-at
decreases-loop-at g l = left_of l.at
