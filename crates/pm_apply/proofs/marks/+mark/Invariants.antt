use Rattle.std.proofs.Common.{◌+◌, ◌*◌, length}
use Rattle.std.specs.Arc.{arc_value}
use Rattle.pm_node.specs.Trees.{node_tokens}
use Rattle.pm_schema.specs.Documents.{documents_of}
use Rattle.pm_apply.specs.Markings.{new_marks}
use Rattle.pm_apply.proofs.MarkedWalk.{Marked}
use Rattle.pm_apply.proofs.marks.+mark.Given as goal

abbrev pub invariant-mark_content-loop-i : goal.invariant-mark_content-loop-i
invariant-mark_content-loop-i l =
    Marked (new_marks (documents_of l.walk.schema.now.spec) l.walk.marking.now l.reach) l.walk.parent l.children l.i l.from l.to l.start l.end l.made

abbrev pub decreases-mark_content : goal.decreases-mark_content
decreases-mark_content l = 3 * length l.content.now + 2

abbrev pub decreases-mark_child : goal.decreases-mark_child
decreases-mark_child l = 3 * length (node_tokens (arc_value l.node.now)) + 1

abbrev pub decreases-mark_part : goal.decreases-mark_part
decreases-mark_part l = 3 * length (node_tokens l.node.now)
