use Rattle.pm_places.proofs.GoesOn.{edges-go-on}
use Rattle.pm_places.proofs.laws.edges_go_on.Goals as goal

pub returns : goal.returns
returns c = λ h w s e k. edges-go-on c.args.expr.now c.args.auto.now h w s e k
