use Rattle.std.proofs.Common.{◌≡◌, length, drop}
use Rattle.pm_auto.specs.States.{Below}
use Rattle.pm_auto.specs.Runs.{end_rows}
use Rattle.pm_auto.proofs.sets.may_end.Given as goal

abbrev pub invariant-loop-place : goal.invariant-loop-place
invariant-loop-place l = (Below (length l.rows) (drop l.place-index l.places)) × (end_rows l.rows l.kind l.places ≡ end_rows l.rows l.kind (drop l.place-index l.places))
