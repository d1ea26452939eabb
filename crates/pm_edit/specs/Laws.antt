-- What holds of the steps of ops.
use Rattle.std.specs.Prelude.{◌≡◌, [], Ok}
use Rattle.pm_tokens.specs.Tokens.{Doc}
use Rattle.pm_schema.specs.declared.schema.Schema.{Schema}
use Rattle.pm_ops.specs.declared.op.Op.{Op}
use Rattle.pm_edit.specs.Ops.{steps_of}

-- an op gives at least one step, or it is told why not
abbrev pub MakesSome : Schema → Type 0
MakesSome s = (d : Doc) (o : Op) → steps_of s d o ≡ Ok [] → ⊥
