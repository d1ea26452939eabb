use Rattle.pm_places.proofs.Reached.{has-edges-next}
use Rattle.pm_places.proofs.laws.has_edges_next.Goals as goal

pub returns : goal.returns
returns c = λ h w s e. has-edges-next c.args.expr.now c.args.auto.now h w s e
