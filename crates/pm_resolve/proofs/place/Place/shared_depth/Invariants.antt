use Rattle.std.proofs.Common.{◌≡◌, ◌+◌, drop}
use Rattle.pm_resolve.proofs.LevelLaws.{held}
use Rattle.pm_resolve.proofs.place.Place.shared_depth.Given as goal

abbrev pub invariant-loop-depth : goal.invariant-loop-depth
invariant-loop-depth l = l.depth + held l.pos (drop l.depth l.inner) ≡ held l.pos l.inner
