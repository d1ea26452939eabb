use Rattle.std.proofs.Common.{◌+◌, ◌*◌, length}
use Rattle.pm_node.specs.Trees.{node_tokens}
use Rattle.pm_build.proofs.typing.+typed.Given as goal

abbrev pub decreases-typed : goal.decreases-typed
decreases-typed l = 2 * length l.content.now + 1

abbrev pub decreases-typed_in : goal.decreases-typed_in
decreases-typed_in l = 2 * length (node_tokens l.node.now)
