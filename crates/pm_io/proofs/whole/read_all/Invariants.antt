use Rattle.std.proofs.Common.{vec_len, ◌-◌, ◌≡◌, ◌≤◌}
use Rattle.std.specs.Io.KnownBytes.{Consumes}
use Rattle.pm_io.proofs.whole.read_all.Given as goal

abbrev pub invariant-reads : goal.invariant-reads
invariant-reads g l = record {
  within : vec_len l.bytes ≤ l.limit;
  taken : Consumes (g.R.Source.left l.fn.source) (g.R.Source.left l.source) l.bytes.items;
  same : g.R.Source.faults l.source ≡ g.R.Source.faults l.fn.source;
}

abbrev pub decreases-reads : goal.decreases-reads
decreases-reads g l = l.limit - vec_len l.bytes
