use Rattle.std.proofs.Common.{sym, subst}
use Rattle.pm_map.specs.Through.{ArePaired}
use Rattle.pm_history.proofs.Leading.{pairs-fit}
use Rattle.pm_history.proofs.branches.looking.mapping_behind.Goals as goal

pub from_entries-requires : goal.from_entries-requires
from_entries-requires g c = subst ArePaired (sym c.in_ok-entries.ensures) (pairs-fit _)
