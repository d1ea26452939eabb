use Rattle.pm_authors.proofs.Places.{keeps}
use Rattle.pm_authors.proofs.laws.keeps_authors.Goals as goal

pub returns : goal.returns
returns c = λ a none xs p apart stays h. keeps a none xs c.args.map.now p c.ordered.ensures apart stays h
