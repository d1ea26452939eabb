use Rattle.pm_schema.specs.Documents.{documents_of}
use Rattle.pm_replace.proofs.LawProofs.{puts-back}
use Rattle.pm_replace.proofs.laws.puts_back.Goals as goal

pub returns : goal.returns
returns c = puts-back (documents_of c.args.schema.now.spec)
