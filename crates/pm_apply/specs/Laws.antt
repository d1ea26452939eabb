-- The laws of steps as changes of documents.
use Rattle.pm_change.specs.Changes.{Laws}
use Rattle.pm_schema.specs.Documents.{documents_of}
use Rattle.pm_meaning.proofs.ChangeLaws.{laws_by}
use Rattle.pm_apply.specs.Changes.{meaning}

pub laws : Laws meaning
laws = laws_by (λ schema. documents_of schema.spec)
