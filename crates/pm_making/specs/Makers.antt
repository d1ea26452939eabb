-- An op makes a step, or none is told.
use Rattle.std.proofs.Common.{◌≡◌, [], Ok}
use Rattle.pm_tokens.specs.Tokens.{Doc}
use Rattle.pm_schema.specs.declared.schema.Schema.{Schema}
use Rattle.pm_ops.specs.declared.op.Op.{Op}
use Rattle.pm_edit.proofs.Ops.{makes-some}
use Rattle.pm_making.specs.Making.{makes}

pub some_step : (schema : Schema) (doc : Doc) (op : Op) → makes schema doc op ≡ Ok [] → ⊥
some_step schema doc op h = makes-some schema doc op h
