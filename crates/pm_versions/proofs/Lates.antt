-- Rooms that clients enter late stay what they are.
use Rattle.std.specs.Prelude.{◌≡◌, ℕ, ◌++◌, List, [], drop, length, Result, Ok, Err, OnOk}
use Rattle.std.proofs.Common.{sym, ap, subst, ◌∙◌, append_assoc, append-nil}
use Rattle.std.proofs.Math.Seq.{drop-append_seam}
use Rattle.pm_change.specs.Changes.{Meaning, Laws}
use Rattle.pm_authority.specs.Runs.{AllApply}
use Rattle.pm_session.specs.declared.room.Room.{Room}
use Rattle.pm_change.specs.declared.no_step.NoStep.{NoStep}
use Rattle.pm_session.specs.declared.line.Line.{Line}
use Rattle.pm_session.specs.declared.outcome.Outcome.{Outcome}
use Rattle.pm_session.specs.Events.{state_of, played}
use Rattle.pm_session.specs.Sessions.{settled}
use Rattle.pm_session.specs.Left.{LeftByLine, LeftBySettle}
use Rattle.pm_session.specs.Suits.{SuitsRoom}
use Rattle.pm_session.specs.Sounds.{Sound}
use Rattle.pm_versions.specs.declared.versions.Versions.{Versions}
use Rattle.pm_versions.specs.declared.late.LateRoom.{LateRoom}
use Rattle.pm_versions.specs.Checkpoints.{IsVersions}
use Rattle.pm_versions.specs.Late.{HasFront, IsEditorIdle, entered_by, entered, IsLate}
use Rattle.pm_versions.proofs.Growths.{Grown, line-grown, left-grown, settled-grown, settling-grown}
use Rattle.pm_versions.proofs.Entrances.{entered-sound}
use Rattle.pm_versions.proofs.Parts.{applies-rest}

-- what holds in any case holds of an answer
pub ok-any : {A E P : Type 0} (r : Result A E) → P → OnOk r P
ok-any (Ok a) p = p
ok-any (Err e) p = tt

module _ {Rules Doc Reason C : Type 0} (m : Meaning Rules Doc Reason C) (rules : Rules) where
  -- the room became a later one, and the versions stay
  pub room-late : (l : LateRoom C Rules Doc Reason) (room : Room C Rules Doc Reason) → IsLate m rules l → Sound m rules (state_of room) → Grown (state_of l.room) (state_of room)
      → IsLate m rules (record l { room = room })
  room-late l room h sound grown = record {
    sound = sound;
    versions = h.versions;
    first = h.first ∙ sym grown.first;
    missing = h.missing ++ grown.more;
    log_is = sym (append_assoc l.versions.log h.missing grown.more) ∙ ap (λ k. k ++ grown.more) h.log_is ∙ sym grown.log_is;
  }

  -- what the versions lack
  pub missing-is : (l : LateRoom C Rules Doc Reason) (h : IsLate m rules l) → drop (length l.versions.log) l.room.authority.log ≡ h.missing
  missing-is l h = ap (drop (length l.versions.log)) (sym h.log_is) ∙ drop-append_seam l.versions.log h.missing

  -- applies to their document
  pub missing-applies : (l : LateRoom C Rules Doc Reason) (h : IsLate m rules l) → (end : Doc) × AllApply m rules l.versions.doc (drop (length l.versions.log) l.room.authority.log) end
  missing-applies l h =
      let a = l.room.authority in
      let whole : AllApply m rules l.versions.first (l.versions.log ++ h.missing) a.doc =
      subst (λ d. AllApply m rules d (l.versions.log ++ h.missing) a.doc) (sym h.first) (subst (λ k. AllApply m rules a.first k a.doc) (sym h.log_is) h.sound.authority.folded) in
      (a.doc, subst (λ k. AllApply m rules l.versions.doc k a.doc) (sym (missing-is l h)) (applies-rest m rules l.versions.first l.versions.doc a.doc l.versions.log h.missing h.versions.folded whole))

  -- some of what they lack was pushed
  pub versions-late : (l : LateRoom C Rules Doc Reason) (versions : Versions C Rules Doc Reason) → IsLate m rules l → IsVersions m rules versions → versions.first ≡ l.versions.first
      → HasFront l.versions.log (drop (length l.versions.log) l.room.authority.log) versions.log → IsLate m rules (record l { versions = versions })
  versions-late l versions h kept first front = record {
    sound = h.sound;
    versions = kept;
    first = first ∙ h.first;
    missing = front.1;
    log_is = ap (λ k. k ++ front.1) front.3 ∙ append_assoc l.versions.log front.0 front.1 ∙ ap (λ k. l.versions.log ++ k) (front.2 ∙ missing-is l h) ∙ h.log_is;
  }

  -- a client entered
  pub entered-late : (l : LateRoom C Rules Doc Reason) (room : Room C Rules Doc Reason) (i : ℕ) → IsLate m rules l → IsEditorIdle (state_of l.room) i
      → state_of room ≡ (entered (state_of l.room) i).1 → IsLate m rules (record l { room = room })
  entered-late l room i h idle is =
      let s = state_of l.room in
      let same : (entered s i).1.authority ≡ s.authority = ap (λ o. (entered_by s i o).1.authority) idle.1 in
      let grown : Grown s (entered s i).1 = record {
        first = ap (λ a. a.first) same;
        more = [];
        log_is = ap (λ a. a.log) same ∙ sym (append-nil s.authority.log);
      } in
      room-late l room h (subst (Sound m rules) (sym is) (entered-sound m rules s i h.sound idle)) (subst (Grown s) (sym is) grown)

  module _ (laws : Laws m) (l : LateRoom C Rules Doc Reason) (room : Room C Rules Doc Reason) (h : IsLate m rules l) (sound : Sound m rules (state_of room)) where
    -- a line was played
    pub played-late : {Op : Type 0} (makes : Doc → Op → Result (List C) NoStep) (line : Line Op C) (o : Outcome C Rules Doc Reason) → SuitsRoom (state_of l.room) line
        → (o, state_of room) ≡ played m rules makes (state_of l.room) line → IsLate m rules (record l { room = room })
    played-late makes line o suits is =
        room-late l room h sound (subst (Grown (state_of l.room)) (sym (ap (λ p. p.1) is)) (line-grown m rules laws makes (state_of l.room) line h.sound suits))

    -- or ran out of memory
    pub left-late : {Op : Type 0} (line : Line Op C) → LeftByLine m rules (state_of l.room) line (state_of room) → IsLate m rules (record l { room = room })
    left-late line left = room-late l room h sound (left-grown m rules laws (state_of l.room) line (state_of room) h.sound left)

    -- the room settled
    pub settled-late : state_of room ≡ settled m rules (state_of l.room) → IsLate m rules (record l { room = room })
    settled-late is = room-late l room h sound (subst (Grown (state_of l.room)) (sym is) (settled-grown m rules laws (state_of l.room) h.sound))

    -- or ran out of memory
    pub settling-late : LeftBySettle m rules (state_of l.room) (state_of room) → IsLate m rules (record l { room = room })
    settling-late left = room-late l room h sound (settling-grown m rules laws (state_of l.room) (state_of room) h.sound left)
