-- Rooms that clients enter late: what a line makes of such a room, and what stays true of it.
use Rattle.std.specs.Prelude.{◌≡◌, ◌⊎◌, ℕ, if◌then◌else◌, MatchBool, List, [], ◌++◌, length, slice_get, Option, Some, None, Result}
use Rattle.pm_change.specs.Changes.{Meaning}
use Rattle.pm_change.specs.declared.no_step.NoStep.{NoStep}
use Rattle.pm_change.specs.declared.no_step.NoStep.TheVariants.{NotThere}
use Rattle.pm_authority.specs.declared.named.Named.{Named}
use Rattle.pm_client.specs.declared.client.Client.{Client}
use Rattle.pm_client.specs.Clients.{entered_client}
use Rattle.pm_session.specs.declared.line.Line.{Line}
use Rattle.pm_session.specs.declared.member.Member.{Member}
use Rattle.pm_session.specs.declared.member.Member.TheVariants.{Editor, Raw}
use Rattle.pm_session.specs.declared.outcome.Outcome.{Outcome}
use Rattle.pm_session.specs.declared.outcome.Outcome.TheVariants.{NoStep as NoneMade, Entered}
use Rattle.pm_session.specs.Events.{State, state_of, placed, played}
use Rattle.pm_session.specs.Left.{LeftByLine, LeftBySettle}
use Rattle.pm_session.specs.Sessions.{settled}
use Rattle.pm_session.specs.Sounds.{Sound}
use Rattle.pm_session.specs.Suits.{enters, SuitsRoom}
use Rattle.pm_versions.specs.declared.late.LateRoom.{LateRoom}
use Rattle.pm_versions.specs.Checkpoints.{IsVersions}

-- Some of the first of these steps stand after the old ones, and nothing else is new.
abbrev pub HasFront : {C : Type 0} → List (Named C) → List (Named C) → List (Named C) → Type 0
HasFront {C} old steps new = (pushed rest : List (Named C)) × (pushed ++ rest ≡ steps) × (new ≡ old ++ pushed)

module _ {Rules Doc Reason C : Type 0} where
  -- the member at this place is an editor that has drawn no serial and composed no message
  abbrev pub IsEditorIdle : State C Rules Doc Reason → ℕ → Type 0
  IsEditorIdle s i = (c : Client C Rules Doc Reason) × (slice_get s.members i ≡ Some (Editor c)) × (c.serials ≡ 0) × (c.messages ≡ [])

  abbrev pub entered_by : State C Rules Doc Reason → ℕ → Option (Member C Rules Doc Reason) → Outcome C Rules Doc Reason × State C Rules Doc Reason
  entered_by s i None = (NoneMade NotThere, s)
  entered_by s i (Some (Raw name serial)) = (NoneMade NotThere, s)
  entered_by s i (Some (Editor c)) =
      (Entered (length s.authority.log), placed s i s.authority (Editor (entered_client i (length s.authority.log) s.authority.doc)))

  -- Client i enters: in its place stands one at the log's end, with the authority's document, and nothing pending, and no
  -- message, serial, cursor or event. Where no editor is there, nothing is done.
  abbrev pub entered : State C Rules Doc Reason → ℕ → Outcome C Rules Doc Reason × State C Rules Doc Reason
  entered s i = entered_by s i (slice_get s.members i)

  module _ {Op : Type 0} where
    -- A line that suits a room that clients enter late, as it stands. Who enters is an editor that has done nothing; every other
    -- line suits as in any room.
    abbrev pub SuitsLate : State C Rules Doc Reason → Line Op C → Type 0
    SuitsLate s line = MatchBool (enters line.act) (IsEditorIdle s line.client) (SuitsRoom s line)

module _ {Rules Doc Reason C : Type 0} (m : Meaning Rules Doc Reason C) (rules : Rules) where
  module _ {Op : Type 0} (makes : Doc → Op → Result (List C) NoStep) where
    -- the outcome of a line, and the room after it, where clients enter late
    abbrev pub late_played : State C Rules Doc Reason → Line Op C → Outcome C Rules Doc Reason × State C Rules Doc Reason
    late_played s line = if enters line.act then entered s line.client else played m rules makes s line

    -- a room that a line left so which ran out of memory: as before, or as the line leaves any room, or after the line
    abbrev pub LeftByLate : State C Rules Doc Reason → Line Op C → State C Rules Doc Reason → Type 0
    LeftByLate s line t = (t ≡ s) ⊎ (LeftByLine m rules s line t ⊎ (t ≡ (late_played s line).1))

  -- so it is where a room was to settle
  abbrev pub LeftByLateSettle : State C Rules Doc Reason → State C Rules Doc Reason → Type 0
  LeftByLateSettle s t = (t ≡ s) ⊎ (LeftBySettle m rules s t ⊎ (t ≡ settled m rules s))

  -- The room is sound. The versions begin with its first document, and have the steps of its log, or the first of them.
  pub record IsLate (l : LateRoom C Rules Doc Reason) : Type 0 where
    pub sound : Sound m rules (state_of l.room)
    pub versions : IsVersions m rules l.versions
    pub first : l.versions.first ≡ l.room.authority.first
    pub missing : List (Named C)
    pub log_is : l.versions.log ++ missing ≡ l.room.authority.log
