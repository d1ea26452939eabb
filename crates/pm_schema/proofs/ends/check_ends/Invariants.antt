use Rattle.std.proofs.Common.{◌<◌, ℕ, get_or}
use Rattle.pm_auto.specs.declared.auto.Auto.{Auto}
use Rattle.pm_schema.specs.Generated.{Finishing}
use Rattle.pm_schema.proofs.ends.check_ends.Given as goal

abbrev pub invariant-loop-kind : goal.invariant-loop-kind
invariant-loop-kind l = (j : ℕ) (d : Auto) → j < l.kind → Finishing l.table (get_or l.autos j d)
