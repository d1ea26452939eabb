use Rattle.std.proofs.Common.{◌≡◌, ◌++◌, drop}
use Rattle.pm_auto.specs.Bits.{picked}
use Rattle.pm_auto.proofs.sets.choose.Given as goal

abbrev pub invariant-loop-number : goal.invariant-loop-number
invariant-loop-number l = picked l.words 0 l.rows ≡ l.list ++ picked l.words l.number (drop l.number l.rows)
