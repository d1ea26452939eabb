use Rattle.std.proofs.Common.{sym, subst, arith}
use Rattle.pm_units.specs.Pieces.{IsPieces, IsForm}
use Rattle.pm_units.proofs.TextLaws.{text-bound}
use Rattle.pm_units.proofs.form.Form.len.Goals as goal

pub returns-in-Long-clause-few : goal.returns-in-Long-clause-few
returns-in-Long-clause-few c =
    let laid : IsPieces c.deref.result.now = subst IsPieces (sym c.deref.ensures) (subst IsForm c.in-Long.is c.requires) in
    omega (arith, c.len-in-Long.ensures, text-bound c.deref.result.now laid)
