use Rattle.std.proofs.Common.{◌≡◌, ◌++◌, List, drop, take, vec_len}
use Rattle.std.specs.Prelude.{ℕ}
use Rattle.pm_apply.specs.Changes.{meaning}
use Rattle.pm_session.specs.Events.{state_of}
use Rattle.pm_session.specs.Sessions.{session}
use Rattle.pm_session.specs.Sounds.{Sound}
use Rattle.pm_session.specs.Suits.{LinesSuit}
use Rattle.pm_selective.specs.Playing.{AreApartLines}
use Rattle.pm_selective.proofs.playing.play_all.Given as goal

abbrev pub invariant-loop-line : goal.invariant-loop-line
invariant-loop-line g l =
    let makes = g.K.Maker.makes l.maker l.schema in
    record {
      each : vec_len l.outcomes ≡ l.line-index;
      outcomes : l.outcomes.items ++ (session meaning l.schema makes (state_of l.room) (drop l.line-index l.lines)).0 ≡ (session meaning l.schema makes (state_of l.fn.room) l.lines).0;
      room : (session meaning l.schema makes (state_of l.room) (drop l.line-index l.lines)).1 ≡ (session meaning l.schema makes (state_of l.fn.room) l.lines).1;
      front : state_of l.room ≡ (session meaning l.schema makes (state_of l.fn.room) (take l.line-index l.lines)).1;
      suit : LinesSuit (state_of l.room) (drop l.line-index l.lines);
      sound : Sound meaning l.schema (state_of l.room);
      told : (rest : List ℕ) → AreApartLines l.schema makes (state_of l.room) (drop l.line-index l.lines) rest
          → AreApartLines l.schema makes (state_of l.fn.room) l.lines (l.numbers.items ++ rest);
    }
