use Rattle.std.proofs.Common.{ℕ, length, ap, arith}
use Rattle.std.proofs.lemmas.List.{length-take}
use Rattle.pm_units.proofs.form.Form.cut.Goals as goal

pub returns-then-to-from-le-PIECE-clause-form : goal.returns-then-to-from-le-PIECE-clause-form
returns-then-to-from-le-PIECE-clause-form c = omega (arith, ap length c.in_ok-short_part-in-Long.ensures, length-take {A = ℕ}, c.if-to-from-le-PIECE.true)
