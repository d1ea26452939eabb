-- Sessions in rooms that clients enter late: what holds of their rooms and of their lines.
use Rattle.std.specs.Prelude.{◌≡◌, ℕ, zero, suc, ◌+◌, ◌≤◌, if◌then◌else◌, MatchBool, Bool, true, false, List, [], ◌∷◌, ◌++◌, length, take, drop, slice_get, Some, Result, refl}
use Rattle.std.proofs.Common.{sym, ap, subst, ◌∙◌, add-one, append-nil}
use Rattle.pm_change.specs.Changes.{Meaning, Laws}
use Rattle.pm_change.specs.declared.no_step.NoStep.{NoStep}
use Rattle.pm_session.specs.declared.line.Line.{Line}
use Rattle.pm_session.specs.declared.outcome.Outcome.{Outcome}
use Rattle.pm_session.specs.Answers.{LineHolds}
use Rattle.pm_session.specs.Events.{State, played}
use Rattle.pm_session.specs.Members.{kinds_of}
use Rattle.pm_session.specs.Refusals.{GetsNoRefusal, EditorGetsNoRefusal, NoEditorRefused}
use Rattle.pm_session.specs.Sounds.{Sound}
use Rattle.pm_session.specs.Suits.{enters, Suits, SuitsRoom}
use Rattle.pm_session.proofs.Holdings.{session-lines}
use Rattle.pm_session.proofs.Opening.{drop-past}
use Rattle.pm_versions.specs.Late.{IsEditorIdle, entered_by, entered, late_played}
use Rattle.pm_versions.specs.LateSessions.{LateLinesSuit, EntryHolds, LateLineHolds, late_session, AllHold}
use Rattle.pm_versions.specs.Suiting.{EntersFirst, AllSuitLate}
use Rattle.pm_versions.proofs.Growths.{line-grown}
use Rattle.pm_versions.proofs.LateLines.{alone, enters-new, late-first, late-rest, late-sound}

take-zero : {A : Type 0} (xs : List A) → take 0 xs ≡ []
take-zero [] = refl
take-zero (x ∷ xs) = refl

some-inj : {A : Type 0} (x y : A) → Some x ≡ Some y → x ≡ y
some-inj x y h = cc

-- lines that suit do so up to each of them
all-front : {Op C : Type 0} (raw : List Bool) (earlier lines : List (Line Op C)) (k : ℕ) → AllSuitLate raw earlier lines → AllSuitLate raw earlier (take k lines)
all-front raw earlier [] zero h = tt
all-front raw earlier [] (suc k) h = tt
all-front raw earlier (line ∷ lines) zero h = tt
all-front raw earlier (line ∷ lines) (suc k) h = (h.0, all-front raw (earlier ++ line ∷ []) lines k h.1)

pub late-front : {Rules Doc Reason C Op : Type 0} (s : State C Rules Doc Reason) (lines : List (Line Op C)) (k : ℕ) → LateLinesSuit s lines → LateLinesSuit s (take k lines)
late-front s lines k h = record { earlier = h.earlier; counted = h.counted; new = h.new; suit = all-front (kinds_of s.members) h.earlier lines k h.suit }

module _ {Rules Doc Reason C Op : Type 0} (m : Meaning Rules Doc Reason C) (rules : Rules) (makes : Doc → Op → Result (List C) NoStep) where
  -- what the first line comes to, and then the later ones
  pub late-more : (s t : State C Rules Doc Reason) (line : Line Op C) (lines : List (Line Op C)) (o : Outcome C Rules Doc Reason) → (o, t) ≡ late_played m rules makes s line
      → late_session m rules makes s (line ∷ lines) ≡ (o ∷ (late_session m rules makes t lines).0, (late_session m rules makes t lines).1)
  late-more s t line lines o e =
      ap (λ (p : Outcome C Rules Doc Reason × State C Rules Doc Reason). (p.0 ∷ (late_session m rules makes p.1 lines).0, (late_session m rules makes p.1 lines).1)) (sym e)

  -- the room after one line more
  pub late-last : (s : State C Rules Doc Reason) (lines : List (Line Op C)) (k : ℕ) (line : Line Op C) → slice_get lines k ≡ Some line
      → (late_session m rules makes s (take (k + 1) lines)).1 ≡ (late_played m rules makes (late_session m rules makes s (take k lines)).1 line).1
  late-last s lines k line at = rw add-one (last s lines k at)
    where
      last : (s : State C Rules Doc Reason) (lines : List (Line Op C)) (k : ℕ) → slice_get lines k ≡ Some line
          → (late_session m rules makes s (take (suc k) lines)).1 ≡ (late_played m rules makes (late_session m rules makes s (take k lines)).1 line).1
      last s [] k at = absurd (cc)
      last s (first ∷ lines) zero at =
          ap (λ l. (late_session m rules makes (late_played m rules makes s first).1 l).1) (take-zero lines)
          ∙ ap (λ l. (late_played m rules makes s l).1) (some-inj first line at)
      last s (first ∷ lines) (suc k) at = last (late_played m rules makes s first).1 lines k at

  -- once all lines were played, the outcomes are those of the session
  pub late-outcomes : (t : State C Rules Doc Reason) (lines : List (Line Op C)) (k : ℕ) (xs ys : List (Outcome C Rules Doc Reason)) → length lines ≤ k
      → xs ++ (late_session m rules makes t (drop k lines)).0 ≡ ys → xs ≡ ys
  late-outcomes t lines k xs ys all h = let none = drop-past lines k all in sym (append-nil xs) ∙ (rw none at h)

  module _ (laws : Laws m) where
    -- a session of lines that suit keeps a room sound
    pub late-session-sound : (s : State C Rules Doc Reason) (lines : List (Line Op C)) → Sound m rules s → LateLinesSuit s lines → Sound m rules (late_session m rules makes s lines).1
    late-session-sound s [] sound suit = sound
    late-session-sound s (line ∷ lines) sound suit =
        late-session-sound (late_played m rules makes s line).1 lines (late-sound s line lines suit m rules laws makes sound) (late-rest s line lines suit m rules laws makes sound)

    -- its first document stays
    pub late-session-first : (s : State C Rules Doc Reason) (lines : List (Line Op C)) → Sound m rules s → LateLinesSuit s lines
        → (late_session m rules makes s lines).1.authority.first ≡ s.authority.first
    late-session-first s [] sound suit = refl
    late-session-first s (line ∷ lines) sound suit =
        late-session-first (late_played m rules makes s line).1 lines (late-sound s line lines suit m rules laws makes sound) (late-rest s line lines suit m rules laws makes sound)
        ∙ line-first (enters line.act) (late-first s line lines suit m rules laws makes sound)
      where
        line-first : (b : Bool) → MatchBool b (IsEditorIdle s line.client) (SuitsRoom s line)
            → (if b then entered s line.client else played m rules makes s line).1.authority.first ≡ s.authority.first
        line-first true idle = ap (λ o. (entered_by s line.client o).1.authority.first) idle.1
        line-first false suits = (line-grown m rules laws makes s line sound suits).first

    -- what a line holds
    late-holds : (s : State C Rules Doc Reason) (line : Line Op C) (lines : List (Line Op C)) → Sound m rules s → LateLinesSuit s (line ∷ lines)
        → LateLineHolds m rules s line (late_played m rules makes s line).0 (late_played m rules makes s line).1
    late-holds s line lines sound h = by-test (enters line.act) h.suit.0
      where
        by-test : (b : Bool) → MatchBool b (EntersFirst (kinds_of s.members) h.earlier line) (Suits (kinds_of s.members) h.earlier line)
            → MatchBool b (EntryHolds s line (if b then entered s line.client else played m rules makes s line).0 (if b then entered s line.client else played m rules makes s line).1)
            (LineHolds m rules s line (if b then entered s line.client else played m rules makes s line).0 (if b then entered s line.client else played m rules makes s line).1)
        by-test true comes =
            let new = enters-new s line lines h comes in
            record {
              was = new;
              told = ap (λ o. (entered_by s line.client o).0) new;
              room = ap (λ o. (entered_by s line.client o).1) new;
            }
        by-test false suits =
            let p = session-lines m rules laws makes s (line ∷ []) sound (alone s line lines h m rules laws sound suits) 0 line refl in
            subst (λ o. LineHolds m rules s line o (played m rules makes s line).1) (sym (some-inj (played m rules makes s line).0 p.0 p.1)) p.2

    -- each line holds what a line holds
    pub late-lines : (s : State C Rules Doc Reason) (lines : List (Line Op C)) → Sound m rules s → LateLinesSuit s lines → AllHold m rules makes s lines
    late-lines s lines sound suit k line at =
        let h = by-lines s lines sound suit k line at in
        record { outcome = h.0; told = h.1; holds = rw add-one h.2 }
      where
        by-lines : (s : State C Rules Doc Reason) (lines : List (Line Op C)) → Sound m rules s → LateLinesSuit s lines → (k : ℕ) (line : Line Op C) → slice_get lines k ≡ Some line
            → (o : Outcome C Rules Doc Reason) × (slice_get (late_session m rules makes s lines).0 k ≡ Some o)
            × LateLineHolds m rules (late_session m rules makes s (take k lines)).1 line o (late_session m rules makes s (take (suc k) lines)).1
        by-lines s [] sound suit k line at = absurd (cc)
        by-lines s (first ∷ lines) sound suit zero line at =
            let same : first ≡ line = some-inj first line at in
            let p = late_played m rules makes s first in (
              p.0,
              refl,
              subst (λ (l : Line Op C). LateLineHolds m rules s l p.0 (late_session m rules makes p.1 (take 0 lines)).1) same
                  (subst (λ ls. LateLineHolds m rules s first p.0 (late_session m rules makes p.1 ls).1) (sym (take-zero lines)) (late-holds s first lines sound suit)),
            )
        by-lines s (first ∷ lines) sound suit (suc k) line at =
            by-lines (late_played m rules makes s first).1 lines (late-sound s first lines suit m rules laws makes sound) (late-rest s first lines suit m rules laws makes sound) k line at

    -- no message of an editor is refused for a step
    pub late-unrefused : (s : State C Rules Doc Reason) (lines : List (Line Op C)) → Sound m rules s → LateLinesSuit s lines → NoEditorRefused lines (late_session m rules makes s lines).0
    late-unrefused s lines sound suit k line o at at_o =
        let h = late-lines s lines sound suit k line at in
        let is : h.outcome ≡ o = some-inj h.outcome o (sym h.told ∙ at_o) in
        let t = late_session m rules makes s (take k lines) in
        let next = late_session m rules makes s (take (k + 1) lines) in
        subst (EditorGetsNoRefusal line.act) is (by-test (enters line.act) t.1 next.1 h.outcome h.holds)
      where
        by-test : (b : Bool) (t next : State C Rules Doc Reason) (o : Outcome C Rules Doc Reason) → MatchBool b (EntryHolds t line o next) (LineHolds m rules t line o next)
            → EditorGetsNoRefusal line.act o
        by-test true t next o e none = subst GetsNoRefusal (sym e.told) tt
        by-test false t next o e none = e.unrefused none
