use Rattle.std.proofs.Common.{string_bytes}
use Rattle.pm_editor.proofs.Openings.{entry-faulty, entered-told}
use Rattle.pm_editor.proofs.Entered.{entering-good}
use Rattle.pm_editor.proofs.talk.after_entry.Goals as goal

pub returns-in-Err-clause-told : goal.returns-in-Err-clause-told
returns-in-Err-clause-told c = entry-faulty c.args.schema c.args.doc c.args.line.now c.in-Err.error c.in-Err.ensures c.faulty.result c.faulty.ensures

pub returns-in-Ok-comes-clause-good : goal.returns-in-Ok-comes-clause-good
returns-in-Ok-comes-clause-good c =
    entering-good c.args.schema c.args.doc c.requires c.in-Ok.entry c.in-Ok-comes.client c.in-Ok-comes.ensures.client c.in-Ok-comes.ensures.small

pub returns-in-Ok-comes-clause-told : goal.returns-in-Ok-comes-clause-told
returns-in-Ok-comes-clause-told c =
    entered-told c.args.schema c.args.doc c.in-Ok.entry c.in-Ok-comes.client c.in-Ok-comes.ensures.client c.args.line.now (string_bytes c.in-Ok-comes.text)
    c.in-Ok.ensures c.in-Ok-comes.ensures.text
