use Rattle.std.proofs.Common.{◌≡◌, ◌-◌, subst, arith}
use Rattle.std.specs.Prelude.{IfOk}
use Rattle.std.proofs.lemmas.List.{take_all}
use Rattle.pm_units.specs.Pieces.{form_units}
use Rattle.pm_units.proofs.form.Form.all.Goals as goal

pub returns : goal.returns
returns c =
    subst (λ us. IfOk c.list.result (λ v. v.items ≡ us)) (take_all (c.len.result - 0) (form_units c.args.self.now) (omega (arith, c.len.ensures.units))) c.list.ensures
