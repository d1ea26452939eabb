use Rattle.std.proofs.Common.{refl, Ok}
use Rattle.pm_editor.proofs.Openings.{document-faulty}
use Rattle.pm_editor.proofs.talk.after_document.Goals as goal

pub returns-in-Ok-clause-told : goal.returns-in-Ok-clause-told
returns-in-Ok-clause-told c = (Ok c.in-Ok.doc, c.in-Ok.ensures.read, (c.in-Ok.ensures.valid, c.silent.ensures.text, c.silent.ensures.more, refl))

pub returns-in-Err-clause-told : goal.returns-in-Err-clause-told
returns-in-Err-clause-told c = document-faulty c.args.schema c.args.line.now c.in-Err.error c.in-Err.ensures.read c.faulty.result c.faulty.ensures
