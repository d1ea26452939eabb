-- What a worker did by its lines.
use Rattle.std.specs.Prelude.{◌≡◌, ◌≤◌, List, [], ◌++◌, length, map, take, Result}
use Rattle.pm_change.specs.Changes.{Meaning}
use Rattle.pm_change.specs.declared.no_step.NoStep.{NoStep}
use Rattle.pm_authority.specs.declared.authority.Authority.{Authority}
use Rattle.pm_authority.specs.declared.machine.Request.{Request}
use Rattle.pm_authority.specs.declared.message.Answer.{Answer}
use Rattle.pm_desk.specs.Desks.{DeskValue, SeatValue}
use Rattle.pm_desk.specs.Histories.{calls_of}
use Rattle.pm_session.specs.declared.line.Line.{Line}
use Rattle.pm_session.specs.declared.member.Member.{Member}
use Rattle.pm_session.specs.declared.outcome.Outcome.{Outcome}
use Rattle.pm_session.specs.declared.line.Act.{Act}
use Rattle.pm_session.specs.Hosts.{Acts}
use Rattle.pm_session.specs.Members.{name_of}
use Rattle.pm_session.specs.Sounds.{MemberStands}
use Rattle.pm_workers.specs.Seats.{request_of, SeesMore, authority_after, Serves, Answers}
use Rattle.pm_workers.specs.Suiting.{SuitMember}
use Rattle.pm_workers.specs.Threads.{after_request, reply_to}
use Rattle.pm_workers.specs.Works.{answers_of, works}

module _ {Rules Doc Reason C : Type 0} (m : Meaning Rules Doc Reason C) {Op : Type 0} (makes : Doc → Op → Result (List C) NoStep) (d : DeskValue (Authority C Rules Doc Reason) Rules) where
  -- The member x played these lines at the seat s, which became t: the seat has seen more, and is else as it was. Of the calls
  -- that it has seen those that are new and the seat's own present the messages of the lines, one after another, and their
  -- answers in that history are those from which the outcomes and the member y are made.
  pub record Worked (lines : List (Line Op C)) (x : Member C Rules Doc Reason) (s : SeatValue (Authority C Rules Doc Reason) Rules (Request C))
      (outcomes : List (Outcome C Rules Doc Reason)) (y : Member C Rules Doc Reason) (t : SeatValue (Authority C Rules Doc Reason) Rules (Request C)) : Type 0 where
    pub answers : List (Answer C Rules Doc Reason)
    pub seat : SeesMore s t
    pub calls : calls_of s.number t.seen
        ≡ calls_of s.number s.seen ++ map (request_of s.number) (works m d.opening.rules makes lines x answers).messages
    pub answered : answers_of (after_request m) (reply_to m) d.opening.rules s.number d.opening.machine t.seen
        ≡ answers_of (after_request m) (reply_to m) d.opening.rules s.number d.opening.machine s.seen ++ answers
    pub each : length answers ≡ length (works m d.opening.rules makes lines x answers).messages
    pub outcomes_are : outcomes ≡ (works m d.opening.rules makes lines x answers).outcomes
    pub member_is : y ≡ (works m d.opening.rules makes lines x answers).member

  -- The member x played the first of these lines, as many as there are outcomes, at the seat s. The seat t has then seen what
  -- it had seen after the last of them, and may have seen more.
  pub record Began (lines : List (Line Op C)) (x : Member C Rules Doc Reason) (s : SeatValue (Authority C Rules Doc Reason) Rules (Request C))
      (outcomes : List (Outcome C Rules Doc Reason)) (t : SeatValue (Authority C Rules Doc Reason) Rules (Request C)) : Type 0 where
    pub within : length outcomes ≤ length lines
    pub member : Member C Rules Doc Reason
    pub mid : SeatValue (Authority C Rules Doc Reason) Rules (Request C)
    pub worked : Worked (take (length outcomes) lines) x s outcomes member mid
    pub seat : SeesMore mid t

  -- The member x did this act, with the outcome o, and became y. Where the act presents a message, it presented it at the seat s,
  -- which became t; else the seat stayed as it was.
  pub record ActedAt (act : Act Op C) (x : Member C Rules Doc Reason) (s : SeatValue (Authority C Rules Doc Reason) Rules (Request C))
      (o : Outcome C Rules Doc Reason) (y : Member C Rules Doc Reason) (t : SeatValue (Authority C Rules Doc Reason) Rules (Request C)) : Type 0 where
    pub acts : Acts m d.opening.rules makes (t ≡ s) (λ message answer. Answers m d s s.number message answer t) act x o y

  -- The member x, which was to play these lines at the seat s, became y, and the seat t. It played the first lines, as many as
  -- there are outcomes; where there is one for each line, it played all and nothing else. The seat serves it still.
  pub record Finished (lines : List (Line Op C)) (x : Member C Rules Doc Reason) (s : SeatValue (Authority C Rules Doc Reason) Rules (Request C))
      (outcomes : List (Outcome C Rules Doc Reason)) (y : Member C Rules Doc Reason) (t : SeatValue (Authority C Rules Doc Reason) Rules (Request C)) : Type 0 where
    pub began : Began lines x s outcomes t
    pub worked : length outcomes ≡ length lines → Worked lines x s outcomes y t
    pub serves : Serves m d t d.opening.rules (name_of x)

-- Member x is to play these lines at the seat s: the seat serves it, it stands to the log that the seat has seen, each line suits
-- it as the lines before leave it, and there is no outcome yet.
pub record IsReady {Rules Doc Reason C : Type 0} (m : Meaning Rules Doc Reason C) {Op : Type 0} (d : DeskValue (Authority C Rules Doc Reason) Rules)
    (lines : List (Line Op C)) (x : Member C Rules Doc Reason) (s : SeatValue (Authority C Rules Doc Reason) Rules (Request C)) (outcomes : List (Outcome C Rules Doc Reason)) : Type 0 where
  pub serves : Serves m d s d.opening.rules (name_of x)
  pub stands : MemberStands m d.opening.rules d.opening.machine.first (authority_after m d s.seen).log x
  pub suit : SuitMember x lines
  pub none : outcomes ≡ []
