use Rattle.pm_rooms.specs.Halls.{hall_of, RoomsStay, HallIsSound}
use Rattle.pm_rooms.proofs.HallSettling.{FirstSettled, LaterStay}
use Rattle.pm_rooms.proofs.hall.Hall.settle.Given as goal

abbrev pub invariant-loop-r : goal.invariant-loop-r
invariant-loop-r g l =
    let m = g.C.Change.means in
    let h = hall_of l.fn.self in
    let k = hall_of l.self in
    record {
      stay : RoomsStay h k;
      first : FirstSettled m l.r h k;
      later : LaterStay m l.r h k;
      sound : HallIsSound m k;
    }
