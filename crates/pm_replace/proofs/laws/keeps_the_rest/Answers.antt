use Rattle.pm_schema.specs.Documents.{documents_of}
use Rattle.pm_replace.proofs.LawProofs.{keeps-the-rest}
use Rattle.pm_replace.proofs.laws.keeps_the_rest.Goals as goal

pub returns : goal.returns
returns c = keeps-the-rest (documents_of c.args.schema.now.spec)
