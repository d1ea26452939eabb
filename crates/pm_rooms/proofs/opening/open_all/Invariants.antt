use Rattle.pm_rooms.specs.Openings.{AreOpened}
use Rattle.pm_rooms.proofs.opening.open_all.Given as goal

abbrev pub invariant-loop-room : goal.invariant-loop-room
invariant-loop-room g l = AreOpened g.C.Change.means l.yielded l.all
