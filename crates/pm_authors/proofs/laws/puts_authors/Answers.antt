use Rattle.pm_authors.proofs.Places.{puts}
use Rattle.pm_authors.proofs.laws.puts_authors.Goals as goal

pub returns : goal.returns
returns c = λ a none xs size i offset fits h k. puts a none xs c.args.map.now size i offset fits h k
