-- What ops give: at least one step, or why there is none.
use Rattle.std.specs.Prelude.{◌≡◌, [], Ok, Err}
use Rattle.pm_tokens.specs.Tokens.{Doc}
use Rattle.pm_schema.specs.declared.schema.Schema.{Schema}
use Rattle.pm_ops.specs.declared.op.Op.{Op}
use Rattle.pm_edit.specs.Edits.{Answer}
use Rattle.pm_edit.specs.Ops.{answer_of, one, steps_of}

one-some : (a : Answer) → one a ≡ Ok [] → ⊥
one-some (Ok s) e = absurd (cc)
one-some (Err r) e = absurd (cc)

-- an op gives at least one step, or it is told why not
pub makes-some : (s : Schema) (d : Doc) (o : Op) → steps_of s d o ≡ Ok [] → ⊥
unfolding steps_of
makes-some s d o e = one-some (answer_of s d o) e
