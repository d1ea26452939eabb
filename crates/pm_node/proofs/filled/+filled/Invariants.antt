use Rattle.std.proofs.Common.{◌≡◌, ◌+◌, ◌*◌, map, drop}
use Rattle.std.specs.Prelude.{Some}
use Rattle.pm_node.specs.Filled.{both, joined, filled_tokens}
use Rattle.pm_node.proofs.filled.+filled.Given as goal

abbrev pub invariant-filled_content-loop-kind : goal.invariant-filled_content-loop-kind
invariant-filled_content-loop-kind l =
    joined (map (filled_tokens l.schema.spec l.fills l.levels) l.kinds) ≡ both (Some l.content) (joined (map (filled_tokens l.schema.spec l.fills l.levels) (drop l.kind-index l.kinds)))

abbrev pub decreases-filled_node : goal.decreases-filled_node
decreases-filled_node l = 2 * l.levels

abbrev pub decreases-filled_content : goal.decreases-filled_content
decreases-filled_content l = 2 * l.levels + 1
