use Rattle.pm_journal.proofs.Lines.{no_line}
use Rattle.pm_journal.proofs.group.is_line.Goals as goal

pub returns-in-Some : goal.returns-in-Some
returns-in-Some c = (λ t. absurd (cc), λ is. absurd (no_line c.args.bytes.now _ _ c.in-Some.ensures.some.2 is))
