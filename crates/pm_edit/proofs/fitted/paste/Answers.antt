use Rattle.pm_edit.specs.Edits.{paste}
use Rattle.pm_edit.proofs.fitted.paste.Goals as goal

pub returns : goal.returns
returns c = c.step_alone.ensures (paste c.args.schema.now c.args.doc.now c.args.from c.args.to c.args.slice.now) c.paste_edited.ensures.step
