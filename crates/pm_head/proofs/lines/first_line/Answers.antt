use Rattle.std.proofs.Common.{rules}
use Rattle.pm_head.proofs.Split.{first_of, line_to_end}
use Rattle.pm_head.proofs.lines.first_line.Goals as goal

pub returns-in-Some-clause-lines : goal.returns-in-Some-clause-lines
returns-in-Some-clause-lines c = first_of c.args.bytes.now c.in-Some.i (search rules)

pub returns-in-None-clause-lines : goal.returns-in-None-clause-lines
returns-in-None-clause-lines c = line_to_end c.args.bytes.now (search rules) (search rules)
