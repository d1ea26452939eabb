use Rattle.pm_head.proofs.Missing.{no_third}
use Rattle.pm_head.proofs.reading.after_doc.Goals as goal

pub returns-in_default-clause-read : goal.returns-in_default-clause-read
returns-in_default-clause-read c = no_third c.args.form c.args.schema c.args.doc c.args.input.now c.in_default.ensures.lines
