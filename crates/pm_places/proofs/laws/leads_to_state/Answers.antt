use Rattle.pm_places.proofs.Reached.{leads-to-state}
use Rattle.pm_places.proofs.laws.leads_to_state.Goals as goal

pub returns : goal.returns
returns c = λ h w s e. leads-to-state c.args.expr.now c.args.auto.now h w s e
