-- No step of a session is one that its schema does not know.
use Rattle.std.specs.Prelude.{◌≡◌, true, List, Some, Ok, Err}
use Rattle.std.specs.List.{AllByRecursion as Each}
use Rattle.pm_map.specs.declared.mapping.Mirrored.{Mirrored}
use Rattle.pm_tokens.specs.Tokens.{Doc}
use Rattle.pm_tokens.specs.Faults.{Valid}
use Rattle.pm_tokens.specs.Schemas as documents
use Rattle.pm_schema.specs.declared.schema.Schema.{Schema}
use Rattle.pm_schema.specs.Documents.{documents_of}
use Rattle.pm_meaning.specs.declared.reason.Reason.TheVariants.{NotInSchema}
use Rattle.pm_meaning.specs.Steps.{Step}
use Rattle.pm_meaning.specs.Known.{knows_mark, knows_step}
use Rattle.pm_meaning.specs.Maps.{carry}
use Rattle.pm_meaning.specs.Inverses.{inverse}
use Rattle.pm_meaning.specs.Outcomes.{made, outcome}
use Rattle.pm_step.specs.Steps.{step_of}
use Rattle.pm_ops.specs.declared.op.Op.{Op}
use Rattle.pm_ops.specs.declared.op.Op.TheVariants as op
use Rattle.pm_edit.specs.Ops.{steps_of}

-- the schema knows the mark or the step that the op names
abbrev pub KnowsOp : documents.Schema → Op → Type 0
KnowsOp s (op.AddMark from to mark) = knows_mark s mark ≡ true
KnowsOp s (op.RemoveMark from to mark) = knows_mark s mark ≡ true
KnowsOp s (op.Step step) = knows_step s (step_of step) ≡ true
KnowsOp s (op.InsertText from to text) = Unit {0}
KnowsOp s (op.Delete from to) = Unit {0}
KnowsOp s (op.Paste from to slice) = Unit {0}
KnowsOp s (op.InsertNode pos node) = Unit {0}
KnowsOp s (op.Split pos depth) = Unit {0}
KnowsOp s (op.Join pos depth) = Unit {0}
KnowsOp s (op.Wrap from to kind attrs) = Unit {0}
KnowsOp s (op.Lift pos) = Unit {0}
KnowsOp s (op.SetType pos kind attrs) = Unit {0}
KnowsOp s (op.SetAttr pos attr value) = Unit {0}
KnowsOp s (op.SetDocAttr attr value) = Unit {0}

-- the step is not refused on this document as one that the schema does not know
abbrev pub IsNotUnknown : documents.Schema → Doc → Step → Type 0
IsNotUnknown s d c = outcome s c d ≡ Err NotInSchema → ⊥

-- what documents need of the schema
abbrev pub docs : Schema → documents.Schema
docs schema = documents_of schema.spec

-- `plain`: the outcome of a step that the schema knows is what it makes by the other twelve reasons.
-- `never`: these twelve are other reasons.
-- `ops`: no step that an op makes is refused as unknown, where the schema knows the mark or the step that the op names.
-- `applied`, `undone`, `carried`: the schema knows each step that applied, each step of its inverse, and what a mapping leaves of it.
pub record NoneUnknown (schema : Schema) : Type 0 where
  pub plain : (c : Step) (d : Doc) → knows_step (docs schema) c ≡ true → outcome (docs schema) c d ≡ made (docs schema) c d
  pub never : (c : Step) (d : Doc) → made (docs schema) c d ≡ Err NotInSchema → ⊥
  pub ops : (o : Op) (d : Doc) (steps : List Step) → KnowsOp (docs schema) o → steps_of schema d o ≡ Ok steps
      → Each (IsNotUnknown (docs schema) d) steps
  pub applied : (c : Step) (d next : Doc) → outcome (docs schema) c d ≡ Ok next → knows_step (docs schema) c ≡ true
  pub undone : (c : Step) (d next : Doc) → Valid (docs schema) d → outcome (docs schema) c d ≡ Ok next
      → Each (λ b. knows_step (docs schema) b ≡ true) (inverse (docs schema) c d)
  pub carried : (c e : Step) (ms : List Mirrored) → knows_step (docs schema) c ≡ true → carry c ms ≡ Some e
      → knows_step (docs schema) e ≡ true
