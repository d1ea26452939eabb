use Rattle.pm_history.proofs.Taken.{lost-any}
use Rattle.pm_history.proofs.branch.Branch.drop_numbered.Goals as goal

pub returns : goal.returns
returns c = lost-any c.args.number c.args.self.now c.take_numbered.new.self c.take_numbered.result c.take_numbered.ensures
