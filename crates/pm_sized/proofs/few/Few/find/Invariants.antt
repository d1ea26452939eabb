use Rattle.std.proofs.Common.{◌≡◌, ◌≤◌, ◌+◌, take}
use Rattle.pm_sized.specs.Pairs.{total_of}
use Rattle.pm_sized.proofs.few.Few.find.Given as goal

abbrev pub invariant-loop-index : goal.invariant-loop-index
invariant-loop-index g l = record {
  start : l.start ≡ total_of (take l.index l.self.items.items);
  reached : l.start ≤ l.pos;
  steps : l.steps ≤ l.fn.steps + l.index;
}
