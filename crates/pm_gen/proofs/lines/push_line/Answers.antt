use Rattle.pm_gen.proofs.lines.push_line.Goals as goal

pub returns-then-lost : goal.returns-then-lost
returns-then-lost c = rw c.if-lost.true c.format.ensures.ok

pub returns-else-lost : goal.returns-else-lost
returns-else-lost c = rw c.if-lost.false c.bare_line.ensures
