use Rattle.std.proofs.Common.{◌≡◌, ◌++◌, drop, take, vec_len}
use Rattle.pm_session.specs.Events.{state_of}
use Rattle.pm_versions.specs.Late.{IsLate}
use Rattle.pm_versions.specs.LateSessions.{LateLinesSuit, late_session}
use Rattle.pm_versions.proofs.late.LateRoom.play_all.Given as goal

abbrev pub invariant-loop-line : goal.invariant-loop-line
invariant-loop-line g l =
    let m = g.C.Change.means in
    let makes = g.K.Maker.makes l.maker l.rules in
    record {
      each : vec_len l.outcomes ≡ l.line-index;
      outcomes : l.outcomes.items ++ (late_session m l.rules makes (state_of l.self.room) (drop l.line-index l.lines)).0
          ≡ (late_session m l.rules makes (state_of l.fn.self.room) l.lines).0;
      room : (late_session m l.rules makes (state_of l.self.room) (drop l.line-index l.lines)).1 ≡ (late_session m l.rules makes (state_of l.fn.self.room) l.lines).1;
      front : state_of l.self.room ≡ (late_session m l.rules makes (state_of l.fn.self.room) (take l.line-index l.lines)).1;
      suit : LateLinesSuit (state_of l.self.room) (drop l.line-index l.lines);
      kept : IsLate m l.rules l.self;
      reached : l.self.versions.log ≡ l.self.room.authority.log;
    }
