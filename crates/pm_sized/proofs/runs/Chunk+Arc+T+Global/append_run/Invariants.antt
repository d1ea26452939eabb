use Rattle.std.proofs.Common.{◌≡◌, ◌+◌, ◌-◌, ◌++◌, length}
use Rattle.pm_sized.specs.Pairs.{IsCounted}
use Rattle.pm_sized.specs.Parts.{part, chunk_values}
use Rattle.pm_sized.proofs.runs.Chunk+Arc+T+Global.append_run.Given as goal

abbrev pub invariant-loop-i : goal.invariant-loop-i
invariant-loop-i g l = record {
  counted : IsCounted l.self.items.items l.self.starts.items l.self.size;
  values : chunk_values l.self ≡ chunk_values l.fn.self ++ part l.from l.i (chunk_values l.source);
  count : length l.self.items.items ≡ length l.fn.self.items.items + (l.i - l.from);
}
