-- Lines played one after another in a room that clients enter late.
use Rattle.std.specs.Prelude.{◌≡◌, ◌⊎◌, ℕ, ◌+◌, MatchBool, false, List, [], ◌∷◌, length, take, slice_get, Some, Result}
use Rattle.pm_change.specs.Changes.{Meaning}
use Rattle.pm_change.specs.declared.no_step.NoStep.{NoStep}
use Rattle.pm_client.specs.declared.client.Client.{Client}
use Rattle.pm_client.specs.Clients.{new_client, entered_client}
use Rattle.pm_session.specs.declared.line.Line.{Line}
use Rattle.pm_session.specs.declared.member.Member.TheVariants.{Editor}
use Rattle.pm_session.specs.declared.outcome.Outcome.{Outcome}
use Rattle.pm_session.specs.declared.outcome.Outcome.TheVariants.{Entered}
use Rattle.pm_session.specs.Answers.{LineHolds}
use Rattle.pm_session.specs.Events.{State, placed}
use Rattle.pm_session.specs.Members.{kinds_of}
use Rattle.pm_session.specs.Sessions.{session}
use Rattle.pm_session.specs.Suits.{enters, Counted}
use Rattle.pm_versions.specs.Late.{late_played, LeftByLate}
use Rattle.pm_versions.specs.Pulled.{AsPulled, pulled_lines}
use Rattle.pm_versions.specs.Suiting.{has_line, has_entered, AllSuitLate}

module _ {Rules Doc Reason C Op : Type 0} where
  -- Lines that suit a room that clients enter late, as it stands. Its messages and answers are those of some earlier lines, and
  -- an editor that none of these is by is as it came to the room's first document.
  pub record LateLinesSuit (s : State C Rules Doc Reason) (lines : List (Line Op C)) : Type 0 where
    pub earlier : List (Line Op C)
    pub counted : Counted s earlier
    pub new : (i : ℕ) (c : Client C Rules Doc Reason) → slice_get s.members i ≡ Some (Editor c) → has_line i earlier ≡ false → c ≡ new_client i s.authority.first
    pub suit : AllSuitLate (kinds_of s.members) earlier lines

  -- By this line a client enters, from one room to the next. It was as it came to the first document, and in its place stands one
  -- that has the whole log and the document after it, with nothing pending and no message, serial, cursor or event. Nothing else
  -- changes.
  pub record EntryHolds (s : State C Rules Doc Reason) (line : Line Op C) (o : Outcome C Rules Doc Reason) (t : State C Rules Doc Reason) : Type 0 where
    pub was : slice_get s.members line.client ≡ Some (Editor (new_client line.client s.authority.first))
    pub told : o ≡ Entered (length s.authority.log)
    pub room : t ≡ placed s line.client s.authority (Editor (entered_client line.client (length s.authority.log) s.authority.doc))

module _ {Rules Doc Reason C Op : Type 0} (m : Meaning Rules Doc Reason C) (rules : Rules) where
  -- A line of either kind, from one room to the next: its client enters, or it holds what a line holds in any room.
  abbrev pub LateLineHolds : State C Rules Doc Reason → Line Op C → Outcome C Rules Doc Reason → State C Rules Doc Reason → Type 0
  LateLineHolds s line o t = MatchBool (enters line.act) (EntryHolds s line o t) (LineHolds m rules s line o t)

  module _ (makes : Doc → Op → Result (List C) NoStep) where
    -- the outcomes of the lines in order, and the room after the last, where clients enter late
    abbrev pub late_session : State C Rules Doc Reason → List (Line Op C) → List (Outcome C Rules Doc Reason) × State C Rules Doc Reason
    late_session s [] = ([], s)
    late_session s (line ∷ lines) =
        let p = late_played m rules makes s line in
        let rest = late_session p.1 lines in
        (p.0 ∷ rest.0, rest.1)

    -- A room that these lines left so, one of which ran out of memory: the first k were played, and the next left it, or nothing
    -- of it was done.
    pub record LeftByLateLines (s : State C Rules Doc Reason) (lines : List (Line Op C)) (t : State C Rules Doc Reason) : Type 0 where
      pub played : ℕ
      pub left : (t ≡ (late_session s (take played lines)).1)
          ⊎ ((line : Line Op C) × (slice_get lines played ≡ Some line) × LeftByLate m rules makes (late_session s (take played lines)).1 line t)

    -- Line k of these has an outcome, and holds what a line holds, from the room before it to the one after it.
    pub record HoldsAt (s : State C Rules Doc Reason) (lines : List (Line Op C)) (k : ℕ) (line : Line Op C) : Type 0 where
      pub outcome : Outcome C Rules Doc Reason
      pub told : slice_get (late_session s lines).0 k ≡ Some outcome
      pub holds : LateLineHolds (late_session s (take k lines)).1 line outcome (late_session s (take (k + 1) lines)).1

    -- so it is with each of these lines
    abbrev pub AllHold : State C Rules Doc Reason → List (Line Op C) → Type 0
    AllHold s lines = (k : ℕ) (line : Line Op C) → slice_get lines k ≡ Some line → HoldsAt s lines k line

    -- Who entered by these lines is as one that pulled instead: after every number of lines the room is as the one in which the
    -- same lines were played with a pull in place of each entry.
    abbrev pub AllAsPulled : State C Rules Doc Reason → List (Line Op C) → Type 0
    AllAsPulled s lines =
        (k : ℕ) → AsPulled (λ i. has_entered i (take k lines)) (late_session s (take k lines)).1 (session m rules makes s (take k (pulled_lines (λ i. false) lines))).1
