use Rattle.std.proofs.Common.{◌≡◌, ◌≤◌, length}
use Rattle.pm_serve.specs.Serves.{SoFar}
use Rattle.pm_serve.proofs.serving.serve.Given as goal

abbrev pub invariant-loop-count : goal.invariant-loop-count
invariant-loop-count g l = record {
  so_far : (f : SoFar g.S.Service.replies g.S.Service.last g.S.Service.no_memory l.fn.service l.service (g.R.Source.left l.fn.source) (g.R.Source.left l.source) l.fn.lines.unread l.lines.unread (g.W.Sink.written l.fn.sink) (g.W.Sink.written l.sink)) × (l._count ≤ length f.lines);
  good : g.S.Service.good l.service;
  same_reads : g.R.Source.faults l.source ≡ g.R.Source.faults l.fn.source;
  same_writes : g.W.Sink.faults l.sink ≡ g.W.Sink.faults l.fn.sink;
}
