use Rattle.std.proofs.Common.{◌≡◌, ◌≤◌, false, length}
use Rattle.pm_kept.specs.Kept.{IsGoodKept}
use Rattle.pm_kept.specs.Runs.{SoFar}
use Rattle.pm_kept.proofs.serving.serve_kept.Given as goal

abbrev pub invariant-loop-count : goal.invariant-loop-count
invariant-loop-count g l = record {
  so_far : (f : SoFar g.S.Keepable.means g.D.Disk.seen g.D.Disk.may_leave g.D.Disk.is_clean g.D.Disk.faults l.fn.kept l.kept (g.R.Source.left l.fn.source) (g.R.Source.left l.source) l.fn.lines.unread l.lines.unread (g.W.Sink.written l.fn.sink) (g.W.Sink.written l.sink)) × (l._count ≤ length f.lines);
  good : IsGoodKept g.S.Keepable.means g.D.Disk.seen g.D.Disk.may_leave g.D.Disk.is_clean g.D.Disk.is_usable l.kept;
  up : l.kept.failed ≡ false;
  same_reads : g.R.Source.faults l.source ≡ g.R.Source.faults l.fn.source;
  same_writes : g.W.Sink.faults l.sink ≡ g.W.Sink.faults l.fn.sink;
}
