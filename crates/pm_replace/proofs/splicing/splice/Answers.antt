use Rattle.pm_tokens.specs.Schemas.{compatible}
use Rattle.pm_tokens.specs.Slices.{spliced}
use Rattle.pm_tokens.proofs.SchemaLaws.{compatible-itself}
use Rattle.pm_schema.specs.Documents.{documents_of}
use Rattle.pm_replace.proofs.WholeSplices.{whole-joins, whole-plain}
use Rattle.pm_replace.proofs.splicing.splice.Goals as goal

pub returns-in-Some : goal.returns-in-Some
returns-in-Some c =
    let s = documents_of c.args.schema.now.spec in
    let piece = spliced c.args.content.now c.args.from c.args.to c.args.slice.now in
    let whole = rw c.in-Some.is at c.in_ok-made.ensures in
    (whole-joins (compatible s) (compatible-itself s) piece c.in-Some.made whole, whole-plain piece c.in-Some.made whole)
