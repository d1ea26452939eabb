use Rattle.pm_schema.specs.Documents.{documents_of}
use Rattle.pm_replace.proofs.LawProofs.{nothing-gives-back}
use Rattle.pm_replace.proofs.laws.nothing_gives_back.Goals as goal

pub returns : goal.returns
returns c = nothing-gives-back (documents_of c.args.schema.now.spec)
