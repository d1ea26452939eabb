use Rattle.std.proofs.Common.{length}
use Rattle.pm_resolve.proofs.walk.+enter.Given as goal

abbrev pub decreases-enter : goal.decreases-enter
decreases-enter g l = length l.content.now
