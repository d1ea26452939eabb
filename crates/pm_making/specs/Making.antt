-- What an op makes of a document: its step, or why there is none.
use Rattle.std.specs.Prelude.{List, Result}
use Rattle.pm_change.specs.declared.no_step.NoStep.{NoStep}
use Rattle.pm_tokens.specs.Tokens.{Doc}
use Rattle.pm_schema.specs.declared.schema.Schema.{Schema}
use Rattle.pm_meaning.specs.Steps.{Step}
use Rattle.pm_ops.specs.declared.op.Op.{Op}
use Rattle.pm_edit.specs.Ops.{steps_of}

abbrev pub makes : Schema → Doc → Op → Result (List Step) NoStep
makes schema doc op = steps_of schema doc op
