use Rattle.pm_laws.proofs.Something.{means-something}
use Rattle.pm_laws.proofs.laws.input_means_something.Goals as goal

pub returns : goal.returns
returns c = means-something
