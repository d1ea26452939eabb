use Rattle.pm_schema.specs.Documents.{documents_of}
use Rattle.pm_replace.proofs.LawProofs.{around-puts-back}
use Rattle.pm_replace.proofs.laws.around_puts_back.Goals as goal

pub returns : goal.returns
returns c = around-puts-back (documents_of c.args.schema.now.spec)
