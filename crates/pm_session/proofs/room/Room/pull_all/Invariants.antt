use Rattle.std.proofs.Common.{◌≡◌, ◌-◌, length}
use Rattle.pm_client.specs.declared.taken.MessageKind.TheVariants.{Ask}
use Rattle.pm_session.specs.Events.{state_of}
use Rattle.pm_session.specs.Sessions.{exchanged, in_turn}
use Rattle.pm_session.specs.Sounds.{Sound}
use Rattle.pm_session.proofs.room.Room.pull_all.Given as goal

abbrev pub invariant-loop-member : goal.invariant-loop-member
invariant-loop-member g l =
    let n = length l.fn.self.members.items in
    record {
      members : length l.self.members.items ≡ n;
      turns : in_turn (exchanged g.C.Change.means l.rules Ask) l.member (n - l.member) (state_of l.self) ≡ in_turn (exchanged g.C.Change.means l.rules Ask) 0 n (state_of l.fn.self);
      front : state_of l.self ≡ in_turn (exchanged g.C.Change.means l.rules Ask) 0 l.member (state_of l.fn.self);
      sound : Sound g.C.Change.means l.rules (state_of l.self);
    }
