use Rattle.pm_node.specs.Trees.{node_tokens}
use Rattle.pm_edit.specs.Edits.{insert_node}
use Rattle.pm_edit.proofs.fitted.insert_node.Goals as goal

pub returns : goal.returns
returns c = c.step_alone.ensures (insert_node c.args.schema.now c.args.doc.now c.args.pos (node_tokens c.args.node.now)) c.node_edited.ensures.step
