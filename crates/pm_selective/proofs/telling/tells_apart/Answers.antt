use Rattle.pm_selective.proofs.Tests.{told-all}
use Rattle.pm_selective.proofs.telling.tells_apart.Goals as goal

pub returns : goal.returns
returns g c = told-all c.tells.result c.args.names.now c.args.items.now c.requires.differ c.tells.ensures
