use Rattle.std.proofs.Common.{◌≡◌, ◌++◌, drop, take, vec_len}
use Rattle.pm_session.specs.Events.{state_of}
use Rattle.pm_session.specs.Sessions.{session}
use Rattle.pm_session.specs.Sounds.{Sound}
use Rattle.pm_session.specs.Suits.{LinesSuit}
use Rattle.pm_session.proofs.room.Room.play_all.Given as goal

abbrev pub invariant-loop-line : goal.invariant-loop-line
invariant-loop-line g l =
    let m = g.C.Change.means in
    let makes = g.K.Maker.makes l.maker l.rules in
    record {
      each : vec_len l.outcomes ≡ l.line-index;
      outcomes : l.outcomes.items ++ (session m l.rules makes (state_of l.self) (drop l.line-index l.lines)).0 ≡ (session m l.rules makes (state_of l.fn.self) l.lines).0;
      room : (session m l.rules makes (state_of l.self) (drop l.line-index l.lines)).1 ≡ (session m l.rules makes (state_of l.fn.self) l.lines).1;
      front : state_of l.self ≡ (session m l.rules makes (state_of l.fn.self) (take l.line-index l.lines)).1;
      suit : LinesSuit (state_of l.self) (drop l.line-index l.lines);
      sound : Sound m l.rules (state_of l.self);
    }
