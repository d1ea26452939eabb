use Rattle.std.proofs.Common.{◌+◌, ◌*◌, length}
use Rattle.pm_node.specs.Trees.{node_tokens}
use Rattle.pm_build.proofs.builder.Builder.+path.Given as goal

abbrev pub decreases-open_path : goal.decreases-open_path
decreases-open_path l = 2 * length l.source.now + 1

abbrev pub decreases-open_path_in : goal.decreases-open_path_in
decreases-open_path_in l = 2 * length (node_tokens l.node.now)
