use Rattle.pm_places.proofs.Reached.{reaches-each}
use Rattle.pm_places.proofs.laws.reaches_each_state.Goals as goal

pub returns : goal.returns
returns c = λ h s l. reaches-each c.args.expr.now c.args.auto.now h s l
