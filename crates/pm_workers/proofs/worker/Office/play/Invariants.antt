use Rattle.std.proofs.Common.{◌≡◌, take, drop, vec_len}
use Rattle.pm_session.specs.Members.{name_of}
use Rattle.pm_session.specs.Sounds.{MemberStands}
use Rattle.pm_workers.specs.Seats.{authority_after, Serves}
use Rattle.pm_workers.specs.Suiting.{SuitMember}
use Rattle.pm_workers.specs.Worked.{Worked}
use Rattle.pm_workers.proofs.worker.Office.play.Given as goal

abbrev pub invariant-loop-line : goal.invariant-loop-line
invariant-loop-line g l =
    let m = g.C.Change.means in
    let d = l.self.desk.now in
    record {
      count : vec_len l.outcomes ≡ l.line-index;
      worked : Worked m (g.K.Maker.makes l.self.crew.now.maker.now d.opening.rules) d (take l.line-index l.lines) l.fn.member l.fn.seat l.outcomes.items l.member l.seat;
      suit : SuitMember l.member (drop l.line-index l.lines);
      serves : Serves m d l.seat d.opening.rules (name_of l.fn.member);
      stands : MemberStands m d.opening.rules d.opening.machine.first (authority_after m d l.seat.seen).log l.member;
      name : name_of l.member ≡ name_of l.fn.member;
    }
