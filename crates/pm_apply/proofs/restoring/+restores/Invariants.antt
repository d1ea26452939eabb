use Rattle.std.proofs.Common.{◌+◌, ◌*◌, length}
use Rattle.pm_node.specs.Trees.{node_tokens}
use Rattle.pm_schema.specs.Documents.{documents_of}
use Rattle.pm_apply.proofs.RestoredWalk.{Restored}
use Rattle.pm_apply.proofs.restoring.+restores.Given as goal

abbrev pub invariant-restores-loop-i : goal.invariant-restores-loop-i
invariant-restores-loop-i l = Restored (documents_of l.walk.schema.now.spec) l.walk.marking.now l.back l.walk.parent l.children l.i l.from l.to l.start l.end

abbrev pub decreases-restores : goal.decreases-restores
decreases-restores l = 2 * length l.content.now + 1

abbrev pub decreases-restores_in : goal.decreases-restores_in
decreases-restores_in l = 2 * length (node_tokens l.node.now)
