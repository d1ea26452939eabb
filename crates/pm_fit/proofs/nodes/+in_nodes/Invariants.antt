use Rattle.std.proofs.Common.{length}
use Rattle.pm_fit.proofs.nodes.+in_nodes.Given as goal

abbrev pub decreases-in_nodes : goal.decreases-in_nodes
decreases-in_nodes l = length l.kinds.now
