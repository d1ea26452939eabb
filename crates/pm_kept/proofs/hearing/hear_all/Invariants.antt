use Rattle.std.proofs.Common.{length}
use Rattle.pm_kept.specs.Kept.{AreHeld}
use Rattle.pm_kept.specs.Runs.{HearsAll}
use Rattle.pm_kept.specs.Said.{said}
use Rattle.pm_kept.proofs.hearing.hear_all.Given as goal

abbrev pub invariant-loop-more : goal.invariant-loop-more
invariant-loop-more g l = record {
  hears : HearsAll g.S.Keepable.means l.fn.service l.service l.fn.lines.line l.fn.lines.unread l.lines.unread l.fn.held l.held (said l.answers) l.more;
  good : g.S.Keepable.means.good l.service;
  held : AreHeld l.held;
}

abbrev pub decreases-loop-more : goal.decreases-loop-more
decreases-loop-more g l = length l.lines.unread
