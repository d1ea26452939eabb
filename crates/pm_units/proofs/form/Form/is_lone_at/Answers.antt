use Rattle.std.proofs.Common.{arith}
use Rattle.pm_units.proofs.TextLaws.{form-bound}
use Rattle.pm_units.proofs.form.Form.is_lone_at.Goals as goal

pub overflow_add-i : goal.overflow_add-i
overflow_add-i c = omega (arith, form-bound c.args.self.now c.requires.form, c.requires.within)
