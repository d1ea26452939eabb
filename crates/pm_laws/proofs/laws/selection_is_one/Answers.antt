use Rattle.pm_laws.proofs.OneSelection.{select-output}
use Rattle.pm_laws.proofs.laws.selection_is_one.Goals as goal

pub returns : goal.returns
returns c = select-output c.args.input.now
