use Rattle.pm_call.proofs.LateReports.{late-suits}
use Rattle.pm_call.proofs.late.replay_late.Goals as goal

pub play_all-requires-clause-suit : goal.play_all-requires-clause-suit
play_all-requires-clause-suit c = rw (c.in_ok-late.ensures.opens, c.as_slice-lines.ensures) (late-suits c.args.session.now c.requires)
