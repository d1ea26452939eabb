-- From each room to the next cursors stay before their tokens.
use Rattle.std.specs.Prelude.{◌≡◌, ◌⊎◌, ℕ, zero, suc, ◌+◌, ◌≤◌, false, List, [], ◌∷◌, ◌++◌, take, slice_get, Option, Some, None, Result, refl}
use Rattle.std.proofs.Common.{sym, ap, ◌∙◌, subst, inl, inr, arith, add-one, append-nil}
use Rattle.pm_map.specs.declared.side.Side.TheVariants.{After}
use Rattle.pm_change.specs.Changes.{Meaning, Laws}
use Rattle.pm_change.specs.declared.no_step.NoStep.{NoStep}
use Rattle.pm_authority.specs.declared.authority.Authority.{Authority}
use Rattle.pm_authority.specs.declared.message.Message.{Message}
use Rattle.pm_authority.specs.declared.message.Answer.{Answer}
use Rattle.pm_authority.specs.declared.named.Named.{Named}
use Rattle.pm_authority.specs.Kept.{IsKept}
use Rattle.pm_client.specs.declared.client.Client.{Client}
use Rattle.pm_client.specs.declared.taken.MessageKind.{MessageKind}
use Rattle.pm_client.specs.TokenNames.{Token, Has, AllDiffer, KeepsTokens}
use Rattle.pm_client.specs.Cursors.{cursor}
use Rattle.pm_session.specs.declared.line.Line.{Line}
use Rattle.pm_session.specs.declared.line.Act.{Act}
use Rattle.pm_session.specs.declared.member.Member.{Member}
use Rattle.pm_session.specs.declared.member.Member.TheVariants.{Editor, Raw}
use Rattle.pm_session.specs.declared.outcome.Outcome.{Outcome}
use Rattle.pm_session.specs.Events.{State, placed, asked, finished, by_answer, member_exchanges, acted, played}
use Rattle.pm_session.specs.Left.{AuthorityTells, LeftBy}
use Rattle.pm_session.specs.Sessions.{session}
use Rattle.pm_session.specs.Sounds.{MemberStands, Sound}
use Rattle.pm_session.specs.Standing.{tokens_of, NonePinched, AllNamed, CursorsStay}
use Rattle.pm_session.specs.Suits.{SuitsRoom, LinesSuit}
use Rattle.pm_session.proofs.Editors.{exchanges_at, editor_acts, acted-editor, left-editor}
use Rattle.pm_session.proofs.MemberMoves.{member-acted, moved-sound}
use Rattle.pm_session.proofs.SoundLaws.{get-set}
use Rattle.pm_session.proofs.Namings.{log-differ}
use Rattle.pm_session.proofs.Playing.{suits-first, suits-rest, played-sound}
use Rattle.pm_session.proofs.Stays.{presented-first, same-keeps, Stayed, acted-stayed, exchanges-stayed, left-stayed, client-named, stays-before}

some-inj : {A : Type 0} (x y : A) → Some x ≡ Some y → x ≡ y
some-inj x y h = cc

module _ {Rules Doc Reason C : Type 0} (m : Meaning Rules Doc Reason C) (rules : Rules) where
  -- A member became the next one, and the authority the new one. Where it is an editor, its cursors stayed.
  pub record Rested (a : Authority C Rules Doc Reason) (x : Member C Rules Doc Reason) (new : Authority C Rules Doc Reason) (next : Member C Rules Doc Reason) : Type 0 where
    pub first : new.first ≡ a.first
    pub keeps : (c d : Client C Rules Doc Reason) → x ≡ Editor c → next ≡ Editor d → KeepsTokens m new.log c d (m.size c.base) × (c.version ≤ d.version)

module _ {Rules Doc Reason C : Type 0} (m : Meaning Rules Doc Reason C) (rules : Rules) (laws : Laws m) (a : Authority C Rules Doc Reason) (stood : IsKept m rules a) where
  same-editor : (c d : Client C Rules Doc Reason) → Editor c ≡ Editor d → c ≡ d
  same-editor c d e = cc

  -- so it is with an editor
  editor-rested : (c : Client C Rules Doc Reason) (stands : MemberStands m rules a.first a.log (Editor c)) (new : Authority C Rules Doc Reason) (next : Client C Rules Doc Reason)
      → Stayed m rules laws a stood c stands.kin new next → Rested m rules a (Editor c) new (Editor next)
  editor-rested c stands new next h = record { first = h.first; keeps = λ b d e f. by-same b d (same-editor c b e) (same-editor next d f) }
    where
      by-same : (b d : Client C Rules Doc Reason) → c ≡ b → next ≡ d → KeepsTokens m new.log b d (m.size b.base) × (b.version ≤ d.version)
      by-same b d e f =
          subst (λ (y : Client C Rules Doc Reason). KeepsTokens m new.log b y (m.size b.base) × (b.version ≤ y.version)) f
          (subst (λ (y : Client C Rules Doc Reason). KeepsTokens m new.log y next (m.size y.base) × (y.version ≤ next.version)) e (h.keeps, h.rises))

  -- and with a raw client, which has none
  raw-rested : (name serial : ℕ) (new : Authority C Rules Doc Reason) (next : Member C Rules Doc Reason) → new.first ≡ a.first → Rested m rules a (Raw name serial) new next
  raw-rested name serial new next first = record { first = first; keeps = λ b d e f. absurd (cc) }

  answered-first : (o : Option (Message C)) (finish : Option (Answer C Rules Doc Reason) → Outcome C Rules Doc Reason × Member C Rules Doc Reason)
      → (by_answer m rules a o finish).1.first ≡ a.first
  answered-first None finish = refl
  answered-first (Some message) finish = presented-first m rules a message

  pub acted-rested : {Op : Type 0} (makes : Doc → Op → Result (List C) NoStep) (x : Member C Rules Doc Reason) → MemberStands m rules a.first a.log x → (act : Act Op C)
      → Rested m rules a x (acted m rules makes a act x).1 (acted m rules makes a act x).2
  acted-rested makes (Raw name serial) stands act =
      let p = acted m rules makes a act (Raw name serial) in
      raw-rested name serial p.1 p.2 (answered-first (asked {Rules = Rules} {Doc = Doc} {Reason = Reason} act (Raw name serial)) (finished m rules makes act (Raw name serial)))
  acted-rested makes (Editor c) stands act =
      subst (λ p. Rested m rules a (Editor c) p.1 p.2) (sym (acted-editor m rules makes a act c))
      (editor-rested c stands (editor_acts m rules makes a act c).1 (editor_acts m rules makes a act c).2 (acted-stayed m rules laws a stood c stands.kin makes act))

  pub left-rested : {Op : Type 0} (act : Act Op C) (x : Member C Rules Doc Reason) → MemberStands m rules a.first a.log x
      → (new : Authority C Rules Doc Reason) (next : Member C Rules Doc Reason) → LeftBy (new ≡ a) (AuthorityTells m rules a new) act x next → Rested m rules a x new next
  left-rested act (Raw name serial) stands new next h = raw-rested name serial new next (ap (λ (y : Authority C Rules Doc Reason). y.first) h.0)
  left-rested act (Editor c) stands new next h =
      let l = left-editor m rules a new c next act h in
      rw l.1 (editor-rested c stands new l.0 (left-stayed m rules laws a stood c stands.kin act (new, l.0) l.2))

  pub exchanged-rested : (kind : MessageKind) (x : Member C Rules Doc Reason) → MemberStands m rules a.first a.log x
      → Rested m rules a x (member_exchanges m rules a kind x).1 (member_exchanges m rules a kind x).2
  exchanged-rested kind (Raw name serial) stands = raw-rested name serial a (Raw name serial) refl
  exchanged-rested kind (Editor c) stands =
      editor-rested c stands (exchanges_at m rules a c kind false).1 (exchanges_at m rules a c kind false).2 (exchanges-stayed m rules laws a stood c stands.kin kind false)

module _ {Rules Doc Reason C : Type 0} (m : Meaning Rules Doc Reason C) (rules : Rules) (laws : Laws m) where
  differs : (s : State C Rules Doc Reason) → Sound m rules s → AllDiffer s.authority.log
  differs s sound = log-differ s.authority.log sound.names.rise

  -- in a sound room each document's tokens have names
  pub all-named : (s : State C Rules Doc Reason) → Sound m rules s → AllNamed m s
  all-named s sound i c at = client-named m rules laws s.authority.first s.authority.log c (sound.stand i (Editor c) at).1.kin (differs s sound) s.authority.doc

  module _ (s : State C Rules Doc Reason) (sound : Sound m rules s) (i : ℕ) (x : Member C Rules Doc Reason) (at : slice_get s.members i ≡ Some x)
      (new : Authority C Rules Doc Reason) (next : Member C Rules Doc Reason) (end : Sound m rules (placed s i new next)) (more : List (Named C))
      (log_is : new.log ≡ s.authority.log ++ more) where
    abbrev Stays : Client C Rules Doc Reason → Client C Rules Doc Reason → Type 0
    Stays d e =
        NonePinched m new d e → (j p : ℕ) (t : Token) → slice_get d.cursors j ≡ Some (cursor p After) → slice_get (tokens_of m s.authority d) p ≡ Some t → Has (tokens_of m new e) t
        → (q : ℕ) × (slice_get e.cursors j ≡ Some (cursor q After)) × (slice_get (tokens_of m new e) q ≡ Some t)

    -- member i became the next one
    pub placed-stays : Rested m rules s.authority x new next → CursorsStay m s (placed s i new next)
    placed-stays h k d e at_d at_e = here (get-set s.members i k next (Editor e) at_e)
      where
        here : ((k ≡ i) × (Editor e ≡ next)) ⊎ ((k ≡ i → ⊥) × (slice_get s.members k ≡ Some (Editor e))) → Stays d e
        here (inl y) =
            let was : x ≡ Editor d = some-inj x (Editor d) (sym at ∙ ap (slice_get s.members) (sym y.0) ∙ at_d) in
            let kept = h.keeps d e was (sym y.1) in
            stays-before m rules laws s.authority new h.first more log_is (differs (placed s i new next) end) d e (sound.stand k (Editor d) at_d).1.kin
            (end.stand k (Editor e) at_e).1.kin kept.1 kept.0
        here (inr y) =
            let both : Editor d ≡ Editor e = some-inj (Editor d) (Editor e) (sym at_d ∙ y.1) in
            let same : d ≡ e = cc in
            subst (λ (z : Client C Rules Doc Reason). Stays z e) (sym same)
            (stays-before m rules laws s.authority new h.first more log_is (differs (placed s i new next) end) e e (sound.stand k (Editor e) y.1).1.kin
            (end.stand k (Editor e) at_e).1.kin (omega arith) (same-keeps m new.log e e (record { version = refl; pending = refl; cursors = λ i p h. h }) (m.size e.base)))

  -- the same room
  pub rests : (s : State C Rules Doc Reason) → Sound m rules s → CursorsStay m s s
  rests s sound i c d at_c at_d =
      let both : Editor c ≡ Editor d = some-inj (Editor c) (Editor d) (sym at_c ∙ at_d) in
      let same : c ≡ d = cc in
      let k = (sound.stand i (Editor d) at_d).1.kin in
      rw same (stays-before m rules laws s.authority s.authority refl [] (sym (append-nil s.authority.log)) (differs s sound) d d k k (omega arith)
      (same-keeps m s.authority.log d d (record { version = refl; pending = refl; cursors = λ i p h. h }) (m.size d.base)))

  module _ {Op : Type 0} (makes : Doc → Op → Result (List C) NoStep) where
    -- a line was played
    pub played-stays : (s : State C Rules Doc Reason) → Sound m rules s → (line : Line Op C) → SuitsRoom s line → CursorsStay m s (played m rules makes s line).1
    played-stays s sound line suits =
        let x = suits.member in
        let stand = sound.stand line.client x suits.at in
        let p = acted m rules makes s.authority line.act x in
        let moved = member-acted m rules laws s.authority sound.authority makes x stand.1 line.act suits.suits in
        let end : Sound m rules (placed s line.client p.1 p.2) = moved-sound m rules laws s sound line.client x suits.at p.1 p.2 moved in
        rw suits.at (placed-stays s sound line.client x suits.at p.1 p.2 end moved.more moved.log_is
        (acted-rested m rules laws s.authority sound.authority makes x stand.1 line.act))

    -- from the room after k lines to that after one line more
    pub session-stays : (s : State C Rules Doc Reason) (lines : List (Line Op C)) → Sound m rules s → LinesSuit s lines → (k : ℕ)
        → CursorsStay m (session m rules makes s (take k lines)).1 (session m rules makes s (take (k + 1) lines)).1
    session-stays s lines sound suit k = rw add-one (stays s lines k sound suit)
      where
        take-zero : {A : Type 0} (xs : List A) → take 0 xs ≡ []
        take-zero [] = refl
        take-zero (x ∷ xs) = refl

        stays : (s : State C Rules Doc Reason) (lines : List (Line Op C)) (k : ℕ) → Sound m rules s → LinesSuit s lines
            → CursorsStay m (session m rules makes s (take k lines)).1 (session m rules makes s (take (suc k) lines)).1
        stays s [] zero sound suit = rests s sound
        stays s [] (suc k) sound suit = rests s sound
        stays s (line ∷ lines) zero sound suit =
            subst (λ l. CursorsStay m s (session m rules makes (played m rules makes s line).1 l).1) (sym (take-zero lines))
            (played-stays s sound line (suits-first m rules laws makes s sound line lines suit))
        stays s (line ∷ lines) (suc k) sound suit =
            stays (played m rules makes s line).1 lines k (played-sound m rules laws makes s sound line (suits-first m rules laws makes s sound line lines suit))
            (suits-rest m rules laws makes s sound line lines suit)
