-- An undo, a redo or an undo of a numbered event gives the earlier document back, where nothing has changed since.
use Rattle.std.specs.Prelude.{◌≡◌, ℕ, zero, suc, ◌+◌, List, [], ◌∷◌, take, slice_get, slice_set, Some, Result, refl}
use Rattle.std.proofs.Common.{sym, ap, ◌∙◌, subst, add-one}
use Rattle.pm_change.specs.Changes.{Meaning, Laws}
use Rattle.pm_change.specs.declared.no_step.NoStep.{NoStep}
use Rattle.pm_history.specs.declared.turn.Turn.{Turn}
use Rattle.pm_history.specs.declared.turn.Turn.TheVariants as turn
use Rattle.pm_history.specs.Turns.{event_for}
use Rattle.pm_authority.specs.declared.authority.Authority.{Authority}
use Rattle.pm_client.specs.declared.client.Client.{Client}
use Rattle.pm_client.specs.Clients.{turned_if}
use Rattle.pm_client.proofs.Turns.{turned-restores}
use Rattle.pm_session.specs.declared.line.Act.{Act}
use Rattle.pm_session.specs.declared.line.Act.TheVariants.{Edit, Undo, Redo, UndoEvent, Cursor, Submit, Ask, Present, Take, Push, Pull, Forge, Enter}
use Rattle.pm_session.specs.declared.line.Line.{Line}
use Rattle.pm_session.specs.declared.member.Member.TheVariants.{Editor}
use Rattle.pm_session.specs.Events.{State, turns, acted, played}
use Rattle.pm_session.specs.Restoring.{Restored, RestoredBy, Restores}
use Rattle.pm_session.specs.Sessions.{session}
use Rattle.pm_session.proofs.Editors.{editor_acts, acted-editor}

same-editor : {Rules Doc Reason C : Type 0} (c d : Client C Rules Doc Reason) → Editor c ≡ Editor d → c ≡ d
same-editor c d e = cc

some-inj : {A : Type 0} (x y : A) → Some x ≡ Some y → x ≡ y
some-inj x y h = cc

-- what was set at a place that is there stands there
set-there : {A : Type 0} (xs : List A) (i : ℕ) (v x : A) → slice_get xs i ≡ Some x → slice_get (slice_set xs i v) i ≡ Some v
set-there [] i v x h = absurd (cc)
set-there (y ∷ ys) zero v x h = refl
set-there (y ∷ ys) (suc i) v x h = set-there ys i v x h

module _ {Rules Doc Reason C : Type 0} (m : Meaning Rules Doc Reason C) (rules : Rules) (laws : Laws m) where
  module _ (a : Authority C Rules Doc Reason) (c : Client C Rules Doc Reason) where
    turns-restored : (way : Turn) → Restored m rules way a c (turns c (turned_if m rules c way (event_for way c.history))).1
    turns-restored way kin e before last since =
        rw last (turned-restores m rules laws a.first a.log c kin way e last before since)

    pub acted-restored : {Op : Type 0} (makes : Doc → Op → Result (List C) NoStep) (act : Act Op C) → RestoredBy m rules act a c (editor_acts m rules makes a act c).2
    acted-restored makes Undo = turns-restored turn.Undo
    acted-restored makes Redo = turns-restored turn.Redo
    acted-restored makes (UndoEvent number) = turns-restored (turn.UndoEvent number)
    acted-restored makes (Edit op event) = tt
    acted-restored makes (Cursor p side) = tt
    acted-restored makes Submit = tt
    acted-restored makes Ask = tt
    acted-restored makes (Present j) = tt
    acted-restored makes (Take n) = tt
    acted-restored makes (Push lost) = tt
    acted-restored makes (Pull lost) = tt
    acted-restored makes (Forge version steps) = tt
    acted-restored makes Enter = tt

  module _ {Op : Type 0} (makes : Doc → Op → Result (List C) NoStep) where
    -- a line was played
    pub played-restores : (s : State C Rules Doc Reason) (line : Line Op C) → Restores m rules s line (played m rules makes s line).1
    played-restores s line c d at_c at_d =
        let next : Client C Rules Doc Reason = (editor_acts m rules makes s.authority line.act c).2 in
        let is : (acted m rules makes s.authority line.act (Editor c)).2 ≡ Editor next = ap (λ p. p.2) (acted-editor m rules makes s.authority line.act c) in
        let there : slice_get (slice_set s.members line.client (acted m rules makes s.authority line.act (Editor c)).2) line.client ≡ Some (Editor next) =
        set-there s.members line.client (acted m rules makes s.authority line.act (Editor c)).2 (Editor c) at_c ∙ ap Some is in
        let now : slice_get (slice_set s.members line.client (acted m rules makes s.authority line.act (Editor c)).2) line.client ≡ Some (Editor d) = rw at_c at at_d in
        let both : Editor next ≡ Editor d = some-inj (Editor next) (Editor d) (sym there ∙ now) in
        let same : next ≡ d = same-editor next d both in
        subst (λ (x : Client C Rules Doc Reason). RestoredBy m rules line.act s.authority c x) same (acted-restored s.authority c makes line.act)

    -- from the room after k lines to that after one line more
    pub session-restores : (s : State C Rules Doc Reason) (lines : List (Line Op C)) (k : ℕ) (line : Line Op C) → slice_get lines k ≡ Some line
        → Restores m rules (session m rules makes s (take k lines)).1 line (session m rules makes s (take (k + 1) lines)).1
    session-restores s lines k line at = rw add-one (by-lines s lines k at)
      where
        take-zero : {A : Type 0} (xs : List A) → take 0 xs ≡ []
        take-zero [] = refl
        take-zero (x ∷ xs) = refl

        by-lines : (s : State C Rules Doc Reason) (lines : List (Line Op C)) (k : ℕ) → slice_get lines k ≡ Some line
            → Restores m rules (session m rules makes s (take k lines)).1 line (session m rules makes s (take (suc k) lines)).1
        by-lines s [] k at = absurd (cc)
        by-lines s (first ∷ lines) zero at =
            let same : first ≡ line = some-inj first line at in
            subst (λ (l : Line Op C). Restores m rules s l (session m rules makes (played m rules makes s first).1 (take 0 lines)).1) same
            (subst (λ l. Restores m rules s first (session m rules makes (played m rules makes s first).1 l).1) (sym (take-zero lines)) (played-restores s first))
        by-lines s (first ∷ lines) (suc k) at = by-lines (played m rules makes s first).1 lines k at
