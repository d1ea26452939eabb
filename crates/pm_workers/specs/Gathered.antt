-- Clients of a room that each played its own lines, and what they come to together.
use Rattle.std.specs.Prelude.{◌≡◌, ℕ, ◌<◌, List, length, map, All, Result}
use Rattle.pm_change.specs.Changes.{Meaning}
use Rattle.pm_authority.specs.declared.authority.Authority.{Authority}
use Rattle.pm_authority.specs.declared.machine.Request.{Request}
use Rattle.pm_desk.specs.declared.history.Past.{Past}
use Rattle.pm_session.specs.declared.line.Line.{Line}
use Rattle.pm_session.specs.declared.member.Member.{Member}
use Rattle.pm_change.specs.declared.no_step.NoStep.{NoStep}
use Rattle.pm_session.specs.declared.outcome.Outcome.{Outcome}
use Rattle.pm_session.specs.Events.{State}
use Rattle.pm_session.specs.Sessions.{session}
use Rattle.pm_session.specs.Suits.{LinesSuit}
use Rattle.pm_workers.specs.Threads.{callers, in_order, dealt, order_of}

-- the room that an authority and its members make
abbrev pub room_of : {Rules Doc Reason C : Type 0} → Authority C Rules Doc Reason → List (Member C Rules Doc Reason) → State C Rules Doc Reason
room_of a xs = record { authority = a; members = xs }

-- the lines in the order that a history of the calls of n clients makes of them, and the client of each
abbrev pub ordered : {Op C Q : Type 0} → ℕ → List (Line Op C) → List (Past Q) → List (Line Op C)
ordered n lines log = in_order lines (order_of n lines log)

abbrev pub turns_of : {Op C Q : Type 0} → ℕ → List (Line Op C) → List (Past Q) → List ℕ
turns_of n lines log = map (λ line. line.client) (ordered n lines log)

module _ {Rules Doc Reason C : Type 0} (m : Meaning Rules Doc Reason C) (rules : Rules) {Op : Type 0} (makes : Doc → Op → Result (List C) NoStep) where
  -- The n clients of the room s each played its own of these lines. Their calls have this history, `own` and `outcomes` are the
  -- lines and the outcomes of each, and `end` is the room after them. In the order that the history makes the lines suit the
  -- room and call as in the history. Dealt by it, the lines of each are the lines, and the outcomes of each with the room after
  -- them are the session on one thread.
  pub record PlayedApart (n : ℕ) (s : State C Rules Doc Reason) (lines : List (Line Op C)) (log : List (Past (Request C)))
      (own : List (List (Line Op C))) (outcomes : List (List (Outcome C Rules Doc Reason))) (end : State C Rules Doc Reason) : Type 0 where
    pub own_each : length own ≡ n
    pub outcomes_each : length outcomes ≡ n
    pub calls : All (λ past. past.seat < n) log
    pub turns : All (λ turn. turn < n) (turns_of n lines log)
    pub callers_are : callers (ordered n lines log) ≡ map (λ past. past.seat) log
    pub suit : LinesSuit s (ordered n lines log)
    pub lines_are : dealt (turns_of n lines log) own ≡ ordered n lines log
    pub plays : (dealt (turns_of n lines log) outcomes, end) ≡ session m rules makes s (ordered n lines log)
