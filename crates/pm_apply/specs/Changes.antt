-- What steps mean as changes of documents.
use Rattle.pm_change.specs.Changes.{Meaning}
use Rattle.pm_tokens.specs.Tokens.{Doc}
use Rattle.pm_schema.specs.declared.schema.Schema.{Schema}
use Rattle.pm_schema.specs.Documents.{documents_of}
use Rattle.pm_meaning.specs.declared.reason.Reason.{Reason}
use Rattle.pm_meaning.specs.Steps.{Step}
use Rattle.pm_meaning.specs.Meanings.{meaning_by}

-- A document is good where it is valid under the schema. A step gives its outcome, its inverse, its map and its carried step.
abbrev pub meaning : Meaning Schema Doc Reason Step
meaning = meaning_by (λ schema. documents_of schema.spec)
