use Rattle.pm_schema.specs.Documents.{documents_of}
use Rattle.pm_replace.proofs.LawProofs.{cut-gives-back}
use Rattle.pm_replace.proofs.laws.cut_gives_back.Goals as goal

pub returns : goal.returns
returns c = cut-gives-back (documents_of c.args.schema.now.spec)
