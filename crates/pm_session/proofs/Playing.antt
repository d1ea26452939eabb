-- Lines one after another.
use Rattle.std.specs.Prelude.{◌≡◌, ◌⊎◌, ℕ, zero, suc, ◌+◌, ◌≤◌, ◌==◌, ◌&&◌, Bool, true, false, List, [], ◌∷◌, ◌++◌, length, take, drop, slice_get, slice_set, Some, Result, refl}
use Rattle.std.proofs.Common.{cond, sym, ap, ◌∙◌, arith, add-one, append-nil, inl, inr}
use Rattle.std.proofs.lemmas.Bool.{eq-eqb, eqb-true}
use Rattle.std.proofs.lemmas.Grind.{common_steps}
use Rattle.pm_change.specs.Changes.{Meaning, Laws}
use Rattle.pm_change.specs.declared.no_step.NoStep.{NoStep}
use Rattle.pm_authority.specs.declared.authority.Authority.{Authority}
use Rattle.pm_authority.specs.Kept.{IsKept}
use Rattle.pm_client.specs.declared.client.Client.{Client}
use Rattle.pm_session.specs.declared.line.Line.{Line}
use Rattle.pm_session.specs.declared.line.Act.{Act}
use Rattle.pm_session.specs.declared.member.Member.{Member}
use Rattle.pm_session.specs.declared.member.Member.TheVariants.{Editor, Raw}
use Rattle.pm_session.specs.declared.outcome.Outcome.{Outcome}
use Rattle.pm_session.specs.Events.{State, played, acted}
use Rattle.pm_session.specs.Members.{is_raw, kinds_of}
use Rattle.pm_session.specs.Sessions.{session}
use Rattle.pm_session.specs.Suits.{composes_one, gets_one, is_forge, done_by, composed_by, answered_by, AllSuit, ActSuits, SuitsRoom, LinesSuit}
use Rattle.pm_session.specs.Sounds.{MemberStands, Sound}
use Rattle.pm_session.proofs.Editors.{editor_acts, acted-editor}
use Rattle.pm_session.proofs.SoundLaws.{get-set}
use Rattle.pm_session.proofs.Moves.{acted-moved}
use Rattle.pm_session.proofs.Opening.{drop-past}
use Rattle.pm_session.proofs.MemberMoves.{member-acted, moved-sound}

module _ {Op C : Type 0} (does : Act Op C → Bool) (i : ℕ) where
  -- one line more
  done-more : (lines : List (Line Op C)) (line : Line Op C) → done_by does i (lines ++ line ∷ []) ≡ done_by does i lines + cond ((line.client == i) && does line.act) 1 0
  done-more lines line = grind (arith, common_steps)

  done-own : (lines : List (Line Op C)) (line : Line Op C) → line.client ≡ i → done_by does i (lines ++ line ∷ []) ≡ done_by does i lines + cond (does line.act) 1 0
  done-own lines line is = let e : (line.client == i) ≡ true = eq-eqb line.client i is in rw e at (done-more lines line)

  done-other : (lines : List (Line Op C)) (line : Line Op C) → (i ≡ line.client → ⊥) → done_by does i (lines ++ line ∷ []) ≡ done_by does i lines
  done-other lines line other = by-test (line.client == i) refl (done-more lines line)
    where
      by-test : (b : Bool) → (line.client == i) ≡ b → done_by does i (lines ++ line ∷ []) ≡ done_by does i lines + cond (b && does line.act) 1 0
          → done_by does i (lines ++ line ∷ []) ≡ done_by does i lines
      by-test true e h = absurd (other (sym (eqb-true line.client i e)))
      by-test false e h = omega (arith, h)

-- An editor that was a member before an act had as many messages and answers as the one after it but for those of the act.
abbrev BoxMoved : {Rules Doc Reason C Op : Type 0} → Member C Rules Doc Reason → Act Op C → Member C Rules Doc Reason → Type 0
BoxMoved {Rules} {Doc} {Reason} {C} x act next =
    (d : Client C Rules Doc Reason) → next ≡ Editor d → (c : Client C Rules Doc Reason) × (x ≡ Editor c)
    × ((length d.messages ≡ length c.messages + cond (composes_one act) 1 0) × (length d.answers ≡ length c.answers + cond (gets_one act) 1 0))

module _ {Rules Doc Reason C Op : Type 0} (m : Meaning Rules Doc Reason C) (rules : Rules) (laws : Laws m) (makes : Doc → Op → Result (List C) NoStep)
    (a : Authority C Rules Doc Reason) (stood : IsKept m rules a) where
  same-editor : (c d : Client C Rules Doc Reason) → Editor c ≡ Editor d → c ≡ d
  same-editor c d e = cc

  box-acted : (x : Member C Rules Doc Reason) → MemberStands m rules a.first a.log x → (act : Act Op C) → ActSuits x act
      → BoxMoved x act (acted m rules makes a act x).2
  box-acted (Raw name serial) stands act suits d e =
      let moved = member-acted m rules laws a stood makes (Raw name serial) stands act suits in
      absurd (let raw : is_raw (acted m rules makes a act (Raw name serial)).2 ≡ true = moved.kind in let other = rw e at raw in cc)
  box-acted (Editor c) stands act suits d e =
      let moved = acted-moved m rules laws a stood c stands.kin makes act suits.1 in
      let next : Client C Rules Doc Reason = (editor_acts m rules makes a act c).2 in
      let same : next ≡ d = same-editor next d (sym (ap (λ p. p.2) (acted-editor m rules makes a act c)) ∙ e) in
      (c, refl, (ap (λ (y : Client C Rules Doc Reason). length y.messages) (sym same) ∙ moved.messages, ap (λ (y : Client C Rules Doc Reason). length y.answers) (sym same) ∙ moved.answers))

module _ {Rules Doc Reason C Op : Type 0} (m : Meaning Rules Doc Reason C) (rules : Rules) (laws : Laws m) (makes : Doc → Op → Result (List C) NoStep)
    (s : State C Rules Doc Reason) (sound : Sound m rules s) (line : Line Op C) (lines : List (Line Op C)) (h : LinesSuit s (line ∷ lines)) where
  -- the member at a place of which the kind is known
  kind-at : (xs : List (Member C Rules Doc Reason)) (k : ℕ) (b : Bool) → slice_get (kinds_of xs) k ≡ Some b
      → (x : Member C Rules Doc Reason) × (slice_get xs k ≡ Some x) × (is_raw x ≡ b)
  kind-at [] k b h = absurd (cc)
  kind-at (x ∷ xs) zero b h = let e : is_raw x ≡ b = cc in (x, refl, e)
  kind-at (x ∷ xs) (suc k) b h = kind-at xs k b h

  member-suits : (x : Member C Rules Doc Reason) → slice_get s.members line.client ≡ Some x → is_raw x ≡ is_forge line.act → ActSuits x line.act
  member-suits (Raw name serial) at kind = sym kind
  member-suits (Editor c) at kind = let n = h.counted line.client c at in (sym kind, rw (n.0, n.1) h.suit.0.named)

  -- the first line suits the room
  pub suits-first : SuitsRoom s line
  suits-first =
      let at = kind-at s.members line.client (is_forge line.act) h.suit.0.kind in
      record { member = at.0; at = at.1; suits = member-suits at.0 at.1 at.2 }

  -- the kinds of the members stay
  kinds-set : (xs : List (Member C Rules Doc Reason)) (k : ℕ) (x next : Member C Rules Doc Reason) → slice_get xs k ≡ Some x → is_raw next ≡ is_raw x
      → kinds_of (slice_set xs k next) ≡ kinds_of xs
  kinds-set [] k x next at kind = absurd (cc)
  kinds-set (y ∷ xs) zero x next at kind = let e : y ≡ x = cc in ap (λ b. b ∷ kinds_of xs) (kind ∙ ap is_raw (sym e))
  kinds-set (y ∷ xs) (suc k) x next at kind = ap (λ l. is_raw y ∷ l) (kinds-set xs k x next at kind)

  -- and the later ones suit the room after it
  pub suits-rest : LinesSuit (played m rules makes s line).1 lines
  suits-rest =
      let one = suits-first in
      let x = one.member in
      let stand = sound.stand line.client x one.at in
      let p = acted m rules makes s.authority line.act x in
      let moved = member-acted m rules laws s.authority sound.authority makes x stand.1 line.act one.suits in
      rw one.at (record {
        earlier = h.earlier ++ line ∷ [];
        counted = λ i d at. by-place i d x p.2 one.at (box-acted m rules laws makes s.authority sound.authority x stand.1 line.act one.suits) (get-set s.members line.client i p.2 (Editor d) at);
        suit = rw (kinds-set s.members line.client x p.2 one.at moved.kind) h.suit.1;
      })
    where
      by-place : (i : ℕ) (d : Client C Rules Doc Reason) (x next : Member C Rules Doc Reason) → slice_get s.members line.client ≡ Some x → BoxMoved x line.act next
          → ((i ≡ line.client) × (Editor d ≡ next)) ⊎ ((i ≡ line.client → ⊥) × (slice_get s.members i ≡ Some (Editor d)))
          → (length d.messages ≡ composed_by i (h.earlier ++ line ∷ [])) × (length d.answers ≡ answered_by i (h.earlier ++ line ∷ []))
      by-place i d x next at box (inl e) =
          let b = box d (sym e.1) in
          let n = h.counted line.client b.0 (at ∙ ap Some b.1) in
          let one = done-own composes_one i h.earlier line (sym e.0) in
          let two = done-own gets_one i h.earlier line (sym e.0) in (
            b.2.0 ∙ ap (λ k. k + cond (composes_one line.act) 1 0) (n.0 ∙ ap (λ k. composed_by k h.earlier) (sym e.0)) ∙ sym one,
            b.2.1 ∙ ap (λ k. k + cond (gets_one line.act) 1 0) (n.1 ∙ ap (λ k. answered_by k h.earlier) (sym e.0)) ∙ sym two,
          )
      by-place i d x next at box (inr e) =
          let was = h.counted i d e.1 in
          (was.0 ∙ sym (done-other composes_one i h.earlier line e.0), was.1 ∙ sym (done-other gets_one i h.earlier line e.0))

-- a line that suits keeps a room sound
pub played-sound : {Rules Doc Reason C Op : Type 0} (m : Meaning Rules Doc Reason C) (rules : Rules) (laws : Laws m) (makes : Doc → Op → Result (List C) NoStep)
    (s : State C Rules Doc Reason) → Sound m rules s → (line : Line Op C) → SuitsRoom s line → Sound m rules (played m rules makes s line).1
played-sound m rules laws makes s sound line suits =
    let x = suits.member in
    let p = acted m rules makes s.authority line.act x in
    rw suits.at (moved-sound m rules laws s sound line.client x suits.at p.1 p.2
    (member-acted m rules laws s.authority sound.authority makes x (sound.stand line.client x suits.at).1 line.act suits.suits))

-- what the first line comes to, and then the later ones
pub session-more : {Rules Doc Reason C Op : Type 0} (m : Meaning Rules Doc Reason C) (rules : Rules) (makes : Doc → Op → Result (List C) NoStep)
    (s t : State C Rules Doc Reason) (line : Line Op C) (lines : List (Line Op C)) (o : Outcome C Rules Doc Reason) → (o, t) ≡ played m rules makes s line
    → session m rules makes s (line ∷ lines) ≡ (o ∷ (session m rules makes t lines).0, (session m rules makes t lines).1)
session-more m rules makes s t line lines o e =
    let one : o ≡ (played m rules makes s line).0 = ap (λ p. p.0) e in
    let two : t ≡ (played m rules makes s line).1 = ap (λ p. p.1) e in
    rw (one, two) refl

-- a session of lines that suit keeps a room sound
pub session-sound : {Rules Doc Reason C Op : Type 0} (m : Meaning Rules Doc Reason C) (rules : Rules) (laws : Laws m) (makes : Doc → Op → Result (List C) NoStep)
    (s : State C Rules Doc Reason) (lines : List (Line Op C)) → Sound m rules s → LinesSuit s lines → Sound m rules (session m rules makes s lines).1
session-sound m rules laws makes s [] sound suit = sound
session-sound m rules laws makes s (line ∷ lines) sound suit =
    session-sound m rules laws makes (played m rules makes s line).1 lines
    (played-sound m rules laws makes s sound line (suits-first m rules laws makes s sound line lines suit)) (suits-rest m rules laws makes s sound line lines suit)

-- and so does each beginning of it
pub suit-front : {Op C : Type 0} (n : List Bool) (earlier lines : List (Line Op C)) (k : ℕ) → AllSuit n earlier lines → AllSuit n earlier (take k lines)
suit-front n earlier [] zero h = tt
suit-front n earlier [] (suc k) h = tt
suit-front n earlier (line ∷ lines) zero h = tt
suit-front n earlier (line ∷ lines) (suc k) h = (h.0, suit-front n (earlier ++ line ∷ []) lines k h.1)

-- the first of the lines that are left
pub at-rest : {A : Type 0} (xs rest : List A) (k : ℕ) (x : A) → drop k xs ≡ x ∷ rest → slice_get xs k ≡ Some x
at-rest [] rest zero x e = absurd (cc)
at-rest [] rest (suc k) x e = absurd (cc)
at-rest (y ∷ xs) rest zero x e = cc
at-rest (y ∷ xs) rest (suc k) x e = at-rest xs rest k x e

-- the room after one line more
pub session-last : {Rules Doc Reason C Op : Type 0} (m : Meaning Rules Doc Reason C) (rules : Rules) (makes : Doc → Op → Result (List C) NoStep)
    (s : State C Rules Doc Reason) (lines : List (Line Op C)) (k : ℕ) (line : Line Op C) → slice_get lines k ≡ Some line
    → (session m rules makes s (take (k + 1) lines)).1 ≡ (played m rules makes (session m rules makes s (take k lines)).1 line).1
session-last {Rules = Rules} {Doc = Doc} {Reason = Reason} {C = C} {Op = Op} m rules makes s lines k line at = rw add-one (last s lines k at)
  where
    take-zero : {A : Type 0} (xs : List A) → take 0 xs ≡ []
    take-zero [] = refl
    take-zero (x ∷ xs) = refl

    same-line : (a b : Line Op C) → Some a ≡ Some b → a ≡ b
    same-line a b h = cc

    last : (s : State C Rules Doc Reason) (lines : List (Line Op C)) (k : ℕ) → slice_get lines k ≡ Some line
        → (session m rules makes s (take (suc k) lines)).1 ≡ (played m rules makes (session m rules makes s (take k lines)).1 line).1
    last s [] k at = absurd (cc)
    last s (first ∷ lines) zero at =
        ap (λ l. (session m rules makes (played m rules makes s first).1 l).1) (take-zero lines) ∙ ap (λ l. (played m rules makes s l).1) (same-line first line at)
    last s (first ∷ lines) (suc k) at = last (played m rules makes s first).1 lines k at

-- once all lines were played, the outcomes are those of the session
pub outcomes-all : {Rules Doc Reason C Op : Type 0} (m : Meaning Rules Doc Reason C) (rules : Rules) (makes : Doc → Op → Result (List C) NoStep)
    (t : State C Rules Doc Reason) (lines : List (Line Op C)) (k : ℕ) (xs ys : List (Outcome C Rules Doc Reason)) → length lines ≤ k
    → xs ++ (session m rules makes t (drop k lines)).0 ≡ ys → xs ≡ ys
outcomes-all m rules makes t lines k xs ys all h = let none = drop-past lines k all in sym (append-nil xs) ∙ (rw none at h)
