use Rattle.std.proofs.Common.{◌≡◌, ◌+◌, drop}
use Rattle.pm_auto.specs.Groups.{place_of}
use Rattle.pm_auto.proofs.groups.first_of.Given as goal

abbrev pub invariant-loop-number : goal.invariant-loop-number
invariant-loop-number l = place_of l.kind l.rows ≡ l.number + place_of l.kind (drop l.number l.rows)
