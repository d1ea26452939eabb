use Rattle.pm_fit.proofs.LeastLaws.{wrapping-least}
use Rattle.pm_fit.proofs.laws.wrapping_is_least.Goals as goal

pub returns : goal.returns
returns c = record { least = λ a state h e. wrapping-least c.args.schema.now c.args.parent c.args.to c.args.before.now a state h e }
