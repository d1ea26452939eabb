use Rattle.pm_text.specs.Units.{utf16}
use Rattle.pm_edit.specs.Edits.{insert_text}
use Rattle.pm_edit.proofs.fitted.insert_text.Goals as goal

pub returns : goal.returns
returns c = c.step_alone.ensures (insert_text c.args.schema.now c.args.doc.now c.args.from c.args.to (utf16 c.args.text.now)) c.text_edited.ensures.step
