use Rattle.pm_edit.specs.Edits.{delete}
use Rattle.pm_edit.proofs.fitted.delete.Goals as goal

pub returns : goal.returns
returns c = c.step_alone.ensures (delete c.args.schema.now c.args.doc.now c.args.from c.args.to) c.deletion_edited.ensures.step
