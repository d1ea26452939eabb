use Rattle.pm_head.proofs.Missing.{no_second}
use Rattle.pm_head.proofs.reading.after_schema.Goals as goal

pub returns-in_default-clause-read : goal.returns-in_default-clause-read
returns-in_default-clause-read c = no_second c.args.form c.args.schema c.args.input.now c.in_default.ensures.lines
