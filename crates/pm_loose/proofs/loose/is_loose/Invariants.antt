use Rattle.std.proofs.Common.{◌<◌, ℕ}
use Rattle.pm_loose.proofs.LooseLaws.{ByShortened}
use Rattle.pm_loose.proofs.loose.is_loose.Given as goal

-- the types so far accept a list where they accept the shortened one
abbrev pub invariant-loop-kind : goal.invariant-loop-kind
invariant-loop-kind l = (k : ℕ) → k < l.kind → ByShortened l.schema.spec l.text k
