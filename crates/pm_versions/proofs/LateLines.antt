-- Lines suit a room that clients enter late, one after another.
use Rattle.std.specs.Prelude.{◌≡◌, ◌⊎◌, ℕ, zero, suc, ◌+◌, ◌==◌, ◌&&◌, ◌||◌, if◌then◌else◌, MatchBool, Bool, true, false, List, [], ◌∷◌, ◌++◌, length, slice_get, slice_set, Some, Result, refl}
use Rattle.std.specs.List.{list_any}
use Rattle.std.proofs.Common.{cond, sym, ap, subst, ◌∙◌, arith, inl, inr}
use Rattle.std.proofs.lemmas.Bool.{eq-eqb, eqb-true, or_parts, true≢false}
use Rattle.std.proofs.lemmas.Grind.{common_steps}
use Rattle.std.proofs.lemmas.List.Folds.{list_any-append}
use Rattle.pm_change.specs.Changes.{Meaning, Laws}
use Rattle.pm_change.specs.declared.no_step.NoStep.{NoStep}
use Rattle.pm_authority.specs.declared.authority.Authority.{Authority}
use Rattle.pm_client.specs.declared.client.Client.{Client}
use Rattle.pm_client.specs.Clients.{new_client, entered_client}
use Rattle.pm_session.specs.declared.line.Line.{Line}
use Rattle.pm_session.specs.declared.line.Act.{Act}
use Rattle.pm_session.specs.declared.line.Act.TheVariants.{Edit, Undo, Redo, UndoEvent, Cursor, Submit, Ask, Present, Take, Push, Pull, Forge, Enter}
use Rattle.pm_session.specs.declared.member.Member.{Member}
use Rattle.pm_session.specs.declared.member.Member.TheVariants.{Editor, Raw}
use Rattle.pm_session.specs.Events.{State, placed, by_some, acted, played}
use Rattle.pm_session.specs.Members.{is_raw, kinds_of}
use Rattle.pm_session.specs.Sounds.{MemberStands, Sound}
use Rattle.pm_session.specs.Suits.{enters, composes_one, gets_one, done_by, composed_by, answered_by, ActSuits, Suits, SuitsRoom, LinesSuit}
use Rattle.pm_session.proofs.Editors.{editor_acts, acted-editor}
use Rattle.pm_session.proofs.MemberMoves.{member-acted}
use Rattle.pm_session.proofs.Moves.{acted-moved}
use Rattle.pm_session.proofs.Playing.{suits-first, played-sound}
use Rattle.pm_session.proofs.Rooms.{acted-rested}
use Rattle.pm_session.proofs.SoundLaws.{get-set}
use Rattle.pm_versions.specs.Late.{IsEditorIdle, SuitsLate, entered_by, entered, late_played}
use Rattle.pm_versions.specs.LateSessions.{LateLinesSuit}
use Rattle.pm_versions.specs.Suiting.{has_line, EntersFirst}
use Rattle.pm_versions.proofs.Entrances.{entered-sound}

module _ {Op C : Type 0} (does : Act Op C → Bool) (i : ℕ) where
  -- one line more
  done-more : (lines : List (Line Op C)) (line : Line Op C) → done_by does i (lines ++ line ∷ []) ≡ done_by does i lines + cond ((line.client == i) && does line.act) 1 0
  done-more lines line = grind (arith, common_steps)

  done-own : (lines : List (Line Op C)) (line : Line Op C) → line.client ≡ i → done_by does i (lines ++ line ∷ []) ≡ done_by does i lines + cond (does line.act) 1 0
  done-own lines line is = let e : (line.client == i) ≡ true = eq-eqb line.client i is in rw e at (done-more lines line)

  done-other : (lines : List (Line Op C)) (line : Line Op C) → (i ≡ line.client → ⊥) → done_by does i (lines ++ line ∷ []) ≡ done_by does i lines
  done-other lines line other = by-test (line.client == i) refl (done-more lines line)
    where
      by-test : (b : Bool) → (line.client == i) ≡ b → done_by does i (lines ++ line ∷ []) ≡ done_by does i lines + cond (b && does line.act) 1 0
          → done_by does i (lines ++ line ∷ []) ≡ done_by does i lines
      by-test true e h = absurd (other (sym (eqb-true line.client i e)))
      by-test false e h = omega (arith, h)

-- who has none of these lines has none of the earlier ones, and the last is not its own
pub none-more : {Op C : Type 0} (i : ℕ) (lines : List (Line Op C)) (line : Line Op C) → has_line i (lines ++ line ∷ []) ≡ false
    → (has_line i lines ≡ false) × ((line.client == i) ≡ false)
none-more {Op = Op} {C = C} i lines line h =
    let test : Line Op C → Bool = λ l. l.client == i in
    let both : (list_any test lines || ((line.client == i) || false)) ≡ false = sym (list_any-append test lines (line ∷ [])) ∙ h in
    let parts = or_parts (list_any test lines) ((line.client == i) || false) both in
    (parts.0, (or_parts (line.client == i) false parts.1).0)

-- the member at a place of which the kind is known
kind-at : {Rules Doc Reason C : Type 0} (xs : List (Member C Rules Doc Reason)) (k : ℕ) (b : Bool) → slice_get (kinds_of xs) k ≡ Some b
    → (x : Member C Rules Doc Reason) × (slice_get xs k ≡ Some x) × (is_raw x ≡ b)
kind-at [] k b h = absurd (cc)
kind-at (x ∷ xs) zero b h = let e : is_raw x ≡ b = cc in (x, refl, e)
kind-at (x ∷ xs) (suc k) b h = kind-at xs k b h

-- the kinds of the members stay
kinds-set : {Rules Doc Reason C : Type 0} (xs : List (Member C Rules Doc Reason)) (k : ℕ) (x next : Member C Rules Doc Reason) → slice_get xs k ≡ Some x → is_raw next ≡ is_raw x
    → kinds_of (slice_set xs k next) ≡ kinds_of xs
kinds-set [] k x next at kind = absurd (cc)
kinds-set (y ∷ xs) zero x next at kind = let e : y ≡ x = cc in ap (λ b. b ∷ kinds_of xs) (kind ∙ ap is_raw (sym e))
kinds-set (y ∷ xs) (suc k) x next at kind = ap (λ l. is_raw y ∷ l) (kinds-set xs k x next at kind)

module _ {Rules Doc Reason C Op : Type 0} where
  -- where a member is an editor, it has as many messages and answers as client i composed and got on these lines
  abbrev IsCounted : ℕ → List (Line Op C) → Member C Rules Doc Reason → Type 0
  IsCounted i lines x =
      (d : Client C Rules Doc Reason) → x ≡ Editor d → (length d.messages ≡ composed_by i lines) × (length d.answers ≡ answered_by i lines)

  module _ (s : State C Rules Doc Reason) (line : Line Op C) (lines : List (Line Op C)) (h : LateLinesSuit s (line ∷ lines)) where
    -- the later lines suit the room with the line's member changed
    placed-suits : (x next : Member C Rules Doc Reason) (a : Authority C Rules Doc Reason) → slice_get s.members line.client ≡ Some x → is_raw next ≡ is_raw x
        → a.first ≡ s.authority.first → IsCounted line.client (h.earlier ++ line ∷ []) next → LateLinesSuit (placed s line.client a next) lines
    placed-suits x next a at kind first counted = record {
      earlier = h.earlier ++ line ∷ [];
      counted = λ i d there. count-at i d (get-set s.members line.client i next (Editor d) there);
      new = λ i d there none. new-at i d (none-more i h.earlier line none) (get-set s.members line.client i next (Editor d) there);
      suit = rw (kinds-set s.members line.client x next at kind) h.suit.1;
    }
      where
        count-at : (i : ℕ) (d : Client C Rules Doc Reason)
            → ((i ≡ line.client) × (Editor d ≡ next)) ⊎ ((i ≡ line.client → ⊥) × (slice_get s.members i ≡ Some (Editor d)))
            → (length d.messages ≡ composed_by i (h.earlier ++ line ∷ [])) × (length d.answers ≡ answered_by i (h.earlier ++ line ∷ []))
        count-at i d (inl e) =
            subst (λ k. (length d.messages ≡ composed_by k (h.earlier ++ line ∷ [])) × (length d.answers ≡ answered_by k (h.earlier ++ line ∷ []))) (sym e.0)
            (counted d (sym e.1))
        count-at i d (inr e) =
            let was = h.counted i d e.1 in
            (was.0 ∙ sym (done-other composes_one i h.earlier line e.0), was.1 ∙ sym (done-other gets_one i h.earlier line e.0))

        new-at : (i : ℕ) (d : Client C Rules Doc Reason) → (has_line i h.earlier ≡ false) × ((line.client == i) ≡ false)
            → ((i ≡ line.client) × (Editor d ≡ next)) ⊎ ((i ≡ line.client → ⊥) × (slice_get s.members i ≡ Some (Editor d)))
            → d ≡ new_client i a.first
        new-at i d none (inl e) = absurd (true≢false (sym (eq-eqb line.client i (sym e.0)) ∙ none.1))
        new-at i d none (inr e) = h.new i d e.1 none.0 ∙ ap (new_client i) (sym first)

    -- ---- a line that enters

    module _ (comes : EntersFirst (kinds_of s.members) h.earlier line) where
      -- its client is as it came
      pub enters-new : slice_get s.members line.client ≡ Some (Editor (new_client line.client s.authority.first))
      enters-new =
          let k = kind-at s.members line.client false comes.editor in
          by-kind k.0 k.1 k.2
        where
          by-kind : (x : Member C Rules Doc Reason) → slice_get s.members line.client ≡ Some x → is_raw x ≡ false
              → slice_get s.members line.client ≡ Some (Editor (new_client line.client s.authority.first))
          by-kind (Editor c) at kind = at ∙ ap (λ d. Some (Editor d)) (h.new line.client c at comes.first)
          by-kind (Raw name serial) at kind = absurd (true≢false kind)

      enters-idle : IsEditorIdle s line.client
      enters-idle = (new_client line.client s.authority.first, enters-new, refl, refl)

      enters-rest : enters line.act ≡ true → LateLinesSuit (entered s line.client).1 lines
      enters-rest is =
          let i = line.client in
          let a = s.authority in
          let c : Client C Rules Doc Reason = new_client i a.first in
          let next : Member C Rules Doc Reason = Editor (entered_client i (length a.log) a.doc) in
          let was = h.counted i c enters-new in
          let none = no-box line.act is in
          let left : (entered s i).1 ≡ placed s i a next = ap (λ o. (entered_by s i o).1) enters-new in
          subst (λ r. LateLinesSuit r lines) (sym left)
          (placed-suits (Editor c) next a enters-new refl refl
          (λ d e. (
            own-count d e composes_one was.0 none.0 (λ (x : Client C Rules Doc Reason). length x.messages) refl,
            own-count d e gets_one was.1 none.1 (λ (x : Client C Rules Doc Reason). length x.answers) refl,
          )))
        where
          no-box : (act : Act Op C) → enters act ≡ true → (composes_one act ≡ false) × (gets_one act ≡ false)
          no-box Enter e = (refl, refl)
          no-box (Edit op event) e = absurd (true≢false (sym e))
          no-box Undo e = absurd (true≢false (sym e))
          no-box Redo e = absurd (true≢false (sym e))
          no-box (UndoEvent number) e = absurd (true≢false (sym e))
          no-box (Cursor p side) e = absurd (true≢false (sym e))
          no-box Submit e = absurd (true≢false (sym e))
          no-box Ask e = absurd (true≢false (sym e))
          no-box (Present j) e = absurd (true≢false (sym e))
          no-box (Take n) e = absurd (true≢false (sym e))
          no-box (Push lost) e = absurd (true≢false (sym e))
          no-box (Pull lost) e = absurd (true≢false (sym e))
          no-box (Forge version steps) e = absurd (true≢false (sym e))

          same-editor : (c d : Client C Rules Doc Reason) → Editor c ≡ Editor d → c ≡ d
          same-editor c d e = cc

          own-count : (d : Client C Rules Doc Reason) → Editor (entered_client line.client (length s.authority.log) s.authority.doc) ≡ Editor d
              → (does : Act Op C → Bool) → 0 ≡ done_by does line.client h.earlier → does line.act ≡ false
              → (size : Client C Rules Doc Reason → ℕ) → size (entered_client line.client (length s.authority.log) s.authority.doc) ≡ 0
              → size d ≡ done_by does line.client (h.earlier ++ line ∷ [])
          own-count d e does was none size empty =
              let one = done-own does line.client h.earlier line refl in
              let more : done_by does line.client (h.earlier ++ line ∷ []) ≡ done_by does line.client h.earlier + 0 = one ∙ ap (λ b. done_by does line.client h.earlier + cond b 1 0) none in
              let same : size d ≡ 0 = ap size (sym (same-editor (entered_client line.client (length s.authority.log) s.authority.doc) d e)) ∙ empty in
              omega (arith, was, more, same)

    -- ---- a line that does not

    module _ (m : Meaning Rules Doc Reason C) (rules : Rules) (laws : Laws m) (sound : Sound m rules s) (suits : Suits (kinds_of s.members) h.earlier line) where
      pub alone : LinesSuit s (line ∷ [])
      alone = record { earlier = h.earlier; counted = h.counted; suit = (suits, tt) }

      plays-suits : (makes : Doc → Op → Result (List C) NoStep) → SuitsRoom s line
      plays-suits makes = suits-first m rules laws makes s sound line [] alone

      plays-rest : (makes : Doc → Op → Result (List C) NoStep) → LateLinesSuit (played m rules makes s line).1 lines
      plays-rest makes =
          let one = plays-suits makes in
          let a = s.authority in
          let x = one.member in
          let stand = (sound.stand line.client x one.at).1 in
          let p = acted m rules makes a line.act x in
          let moved = member-acted m rules laws a sound.authority makes x stand line.act one.suits in
          let rested = acted-rested m rules laws a sound.authority makes x stand line.act in
          subst (λ o. LateLinesSuit (by_some s line.client o (acted m rules makes a line.act)).1 lines) (sym one.at)
          (placed-suits x p.2 p.1 one.at moved.kind rested.first (counts x one.at stand one.suits))
        where
          same-editor : (c d : Client C Rules Doc Reason) → Editor c ≡ Editor d → c ≡ d
          same-editor c d e = cc

          counts : (x : Member C Rules Doc Reason) → slice_get s.members line.client ≡ Some x → MemberStands m rules s.authority.first s.authority.log x → ActSuits x line.act
              → IsCounted line.client (h.earlier ++ line ∷ []) (acted m rules makes s.authority line.act x).2
          counts (Raw name serial) at stand suit d e =
              let moved = member-acted m rules laws s.authority sound.authority makes (Raw name serial) stand line.act suit in
              absurd (let raw : is_raw (acted m rules makes s.authority line.act (Raw name serial)).2 ≡ true = moved.kind in let other = rw e at raw in cc)
          counts (Editor c) at stand suit d e =
              let moved = acted-moved m rules laws s.authority sound.authority c stand.kin makes line.act suit.1 in
              let next : Client C Rules Doc Reason = (editor_acts m rules makes s.authority line.act c).2 in
              let same : next ≡ d = same-editor next d (sym (ap (λ p. p.2) (acted-editor m rules makes s.authority line.act c)) ∙ e) in
              let was = h.counted line.client c at in (
                ap (λ (y : Client C Rules Doc Reason). length y.messages) (sym same) ∙ moved.messages ∙ ap (λ k. k + cond (composes_one line.act) 1 0) was.0
                    ∙ sym (done-own composes_one line.client h.earlier line refl),
                ap (λ (y : Client C Rules Doc Reason). length y.answers) (sym same) ∙ moved.answers ∙ ap (λ k. k + cond (gets_one line.act) 1 0) was.1
                    ∙ sym (done-own gets_one line.client h.earlier line refl),
              )

    -- ---- a line of either kind

    module _ (m : Meaning Rules Doc Reason C) (rules : Rules) (laws : Laws m) (makes : Doc → Op → Result (List C) NoStep) (sound : Sound m rules s) where
      -- it suits the room
      pub late-first : SuitsLate s line
      late-first = by-test (enters line.act) h.suit.0
        where
          by-test : (b : Bool) → MatchBool b (EntersFirst (kinds_of s.members) h.earlier line) (Suits (kinds_of s.members) h.earlier line)
              → MatchBool b (IsEditorIdle s line.client) (SuitsRoom s line)
          by-test true comes = enters-idle comes
          by-test false suits = plays-suits m rules laws sound suits makes

      -- the later ones suit the room after it
      pub late-rest : LateLinesSuit (late_played m rules makes s line).1 lines
      late-rest = by-test (enters line.act) refl h.suit.0
        where
          by-test : (b : Bool) → enters line.act ≡ b → MatchBool b (EntersFirst (kinds_of s.members) h.earlier line) (Suits (kinds_of s.members) h.earlier line)
              → LateLinesSuit (if b then entered s line.client else played m rules makes s line).1 lines
          by-test true e comes = enters-rest comes e
          by-test false e suits = plays-rest m rules laws sound suits makes

      -- and that room is sound
      pub late-sound : Sound m rules (late_played m rules makes s line).1
      late-sound = by-test (enters line.act) late-first
        where
          by-test : (b : Bool) → MatchBool b (IsEditorIdle s line.client) (SuitsRoom s line)
              → Sound m rules (if b then entered s line.client else played m rules makes s line).1
          by-test true idle = entered-sound m rules s line.client sound idle
          by-test false suits = played-sound m rules laws makes s sound line suits
