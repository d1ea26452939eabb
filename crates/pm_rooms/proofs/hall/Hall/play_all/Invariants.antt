use Rattle.std.proofs.Common.{◌≡◌, take, drop, vec_len}
use Rattle.pm_rooms.specs.Halls.{hall_of, RoomsStay, LinesSuitHall, HallIsSound}
use Rattle.pm_rooms.proofs.HallLines.{Rooms, Outcomes}
use Rattle.pm_rooms.proofs.hall.Hall.play_all.Given as goal

abbrev pub invariant-loop-line : goal.invariant-loop-line
invariant-loop-line g l =
    let m = g.C.Change.means in
    let makes = g.K.Maker.makes l.maker in
    let h = hall_of l.fn.self in
    let k = hall_of l.self in
    record {
      each : vec_len l.outcomes ≡ l.line-index;
      stay : RoomsStay h k;
      rooms : Rooms m makes h (take l.line-index l.lines) k;
      outcomes : Outcomes m makes h (take l.line-index l.lines) l.outcomes.items k;
      suit : LinesSuitHall k (drop l.line-index l.lines);
      sound : HallIsSound m k;
    }
