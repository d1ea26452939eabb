use Rattle.std.proofs.Common.{sym, ◌∙◌, subst}
use Rattle.pm_rooms.specs.Halls.{hall_of, LinesSuitHall}
use Rattle.tests_rooms.proofs.Rooms.{lines-suit}
use Rattle.tests_rooms.proofs.hall.a_push_reaches_its_own_room_alone.Goals as goal

pub play_all-requires-clause-suit : goal.play_all-requires-clause-suit
play_all-requires-clause-suit g c =
    subst (LinesSuitHall (hall_of c.in_ok-hall.hall)) (sym (c.as_slice.ensures.value ∙ c.in_ok-lines.ensures)) (lines-suit c.in_ok-hall.hall c.in_ok-hall.ensures)
