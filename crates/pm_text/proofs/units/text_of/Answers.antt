use Rattle.std.proofs.Common.{arith, rules}
use Rattle.pm_text.specs.Units.{utf8}
use Rattle.pm_text.proofs.AsciiText.{one_text}
use Rattle.pm_text.proofs.Spelled.{whole_text}
use Rattle.pm_text.proofs.units.text_of.Goals as goal

pub returns-then-is_plain-clause-text : goal.returns-then-is_plain-clause-text
returns-then-is_plain-clause-text c = rw c.in_ok-ascii_text.ensures (one_text c.args.units.now (c.is_plain.ensures c.if-is_plain.true))

pub returns-clause-text : goal.returns-clause-text
unfolding utf8
returns-clause-text c =
    rw c.in_ok-text.ensures (whole_text c.args.units.now (λ i. omega (arith, c.type_inv.units i)) (search rules))
