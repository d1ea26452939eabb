use Rattle.pm_places.proofs.Reached.{leads-alike}
use Rattle.pm_places.proofs.laws.leads_alike_together.Goals as goal

pub returns : goal.returns
returns c = λ h v w s t d e same. leads-alike c.args.expr.now c.args.auto.now h v w s t d e same
