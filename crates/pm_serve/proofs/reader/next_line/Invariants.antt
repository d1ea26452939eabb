use Rattle.std.proofs.Common.{◌≡◌}
use Rattle.pm_serve.proofs.Gathers.{Gathered}
use Rattle.pm_serve.proofs.reader.next_line.Given as goal

abbrev pub invariant-loop-count : goal.invariant-loop-count
invariant-loop-count g l = record {
  gathered : Gathered l._count (g.R.Source.left l.fn.source) (g.R.Source.left l.source) (g.R.Piecewise.pieces l.fn.source) (g.R.Piecewise.pieces l.source) l.fn.unread l.unread l.line;
  same : g.R.Source.faults l.source ≡ g.R.Source.faults l.fn.source;
}
