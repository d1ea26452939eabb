use Rattle.std.proofs.Common.{◌≡◌, ◌++◌, drop}
use Rattle.pm_selective.specs.Apart.{moved_reaches}
use Rattle.pm_selective.specs.Tests.{HasRoomAll}
use Rattle.pm_selective.proofs.telling.moved_reaches.Given as goal

abbrev pub invariant-loop-reach : goal.invariant-loop-reach
invariant-loop-reach l = record {
  room : HasRoomAll l.map (drop l.reach-index l.found);
  same : l.moved.items ++ moved_reaches l.map (drop l.reach-index l.found) ≡ moved_reaches l.map l.found;
}
