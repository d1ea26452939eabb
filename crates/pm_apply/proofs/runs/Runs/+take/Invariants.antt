use Rattle.std.proofs.Common.{◌+◌, ◌*◌, length}
use Rattle.pm_node.specs.Trees.{node_tokens}
use Rattle.pm_schema.specs.Documents.{documents_of}
use Rattle.pm_apply.proofs.TakenWalk.{Taken}
use Rattle.pm_apply.proofs.runs.Runs.+take.Given as goal

abbrev pub invariant-take_content-loop-i : goal.invariant-take_content-loop-i
invariant-take_content-loop-i l =
    Taken (documents_of l.walk.schema.now.spec) l.walk.marking.now l.walk.parent l.children l.i l.at l.from l.to l.place l.start l.end l.fn.self l.self

abbrev pub decreases-take_content : goal.decreases-take_content
decreases-take_content l = 2 * length l.content.now + 1

abbrev pub decreases-take_child : goal.decreases-take_child
decreases-take_child l = 2 * length (node_tokens l.node.now)
