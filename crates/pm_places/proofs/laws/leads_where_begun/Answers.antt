use Rattle.pm_places.proofs.Reached.{leads-where-begun}
use Rattle.pm_places.proofs.laws.leads_where_begun.Goals as goal

pub returns : goal.returns
returns c = λ h w. leads-where-begun c.args.expr.now c.args.auto.now h w
