use Rattle.std.proofs.Common.{◌-◌}
use Rattle.pm_tokens.specs.Scan.{depth_at}
use Rattle.pm_fit.proofs.closing.+push_hollow.Given as goal

abbrev pub decreases-push_hollow : goal.decreases-push_hollow
decreases-push_hollow l = depth_at l.place.now.doc.tokens l.place.now.pos - l.depth
