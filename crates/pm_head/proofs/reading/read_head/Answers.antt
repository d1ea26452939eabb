use Rattle.pm_head.proofs.Missing.{no_first}
use Rattle.pm_head.proofs.reading.read_head.Goals as goal

pub returns-in_default-clause-read : goal.returns-in_default-clause-read
returns-in_default-clause-read c = no_first c.args.form c.args.input.now c.in_default.ensures.lines
