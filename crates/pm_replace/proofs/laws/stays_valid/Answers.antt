use Rattle.pm_schema.specs.Documents.{documents_of}
use Rattle.pm_replace.proofs.LawProofs.{stays-valid}
use Rattle.pm_replace.proofs.laws.stays_valid.Goals as goal

pub returns : goal.returns
returns c = stays-valid (documents_of c.args.schema.now.spec)
