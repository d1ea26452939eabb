use Rattle.std.proofs.Common.{◌∙◌, ap, sym}
use Rattle.pm_history.specs.Tied.{undoes_of}
use Rattle.pm_history.proofs.Smalls.{none-undone}
use Rattle.pm_history.proofs.tied.undoes_of.Goals as goal

pub returns-in-None : goal.returns-in-None
returns-in-None g c = sym (ap (λ o. undoes_of o c.args.items.now) c.in-None.is ∙ none-undone c.args.items.now)
