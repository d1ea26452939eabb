-- A room's log grows, and its first document stays.
use Rattle.std.specs.Prelude.{◌≡◌, ◌⊎◌, ℕ, zero, suc, ◌+◌, List, [], ◌++◌, length, slice_get, Option, Some, None, Result, refl}
use Rattle.std.proofs.Common.{sym, ap, subst, ◌∙◌, inl, inr, append_assoc, append-nil}
use Rattle.pm_change.specs.Changes.{Meaning, Laws}
use Rattle.pm_change.specs.declared.no_step.NoStep.{NoStep}
use Rattle.pm_authority.specs.declared.named.Named.{Named}
use Rattle.pm_authority.specs.declared.authority.Authority.{Authority}
use Rattle.pm_client.specs.declared.taken.MessageKind.{MessageKind}
use Rattle.pm_client.specs.declared.taken.MessageKind.TheVariants.{Submit as Submission, Ask as Asking}
use Rattle.pm_client.specs.Clients.{message_of}
use Rattle.pm_session.specs.declared.line.Line.{Line}
use Rattle.pm_session.specs.declared.member.Member.{Member}
use Rattle.pm_session.specs.declared.member.Member.TheVariants.{Editor, Raw}
use Rattle.pm_session.specs.Events.{State, placed, by_some, acted, played, member_exchanges}
use Rattle.pm_session.specs.Left.{AuthorityTells, LeftByMember, LeftByLine, LeftByExchange, LeftBySettle}
use Rattle.pm_session.specs.Sessions.{exchanged, brought_up, in_turn, settled}
use Rattle.pm_session.specs.Sounds.{Sound}
use Rattle.pm_session.specs.Suits.{SuitsRoom}
use Rattle.pm_session.proofs.MemberMoves.{MemberMoved, member-acted, member-left, member-exchanged, member-exchanging}
use Rattle.pm_session.proofs.Rooms.{acted-rested, left-rested}
use Rattle.pm_session.proofs.Stays.{presented-first}
use Rattle.pm_session.proofs.Turns.{exchanged-sound, turns-sound}

module _ {Rules Doc Reason C : Type 0} where
  -- one room comes after another
  pub record Grown (s t : State C Rules Doc Reason) : Type 0 where
    pub first : t.authority.first ≡ s.authority.first
    pub more : List (Named C)
    pub log_is : t.authority.log ≡ s.authority.log ++ more

  pub grown-same : (s : State C Rules Doc Reason) → Grown s s
  grown-same s = record { first = refl; more = []; log_is = sym (append-nil s.authority.log) }

  pub grown-then : (r s t : State C Rules Doc Reason) → Grown r s → Grown s t → Grown r t
  grown-then r s t g h = record {
    first = h.first ∙ g.first;
    more = g.more ++ h.more;
    log_is = h.log_is ∙ ap (λ l. l ++ h.more) g.log_is ∙ append_assoc r.authority.log g.more h.more;
  }

module _ {Rules Doc Reason C : Type 0} (m : Meaning Rules Doc Reason C) (rules : Rules) (laws : Laws m) where
  -- by a member that moved
  moved-grown : (s : State C Rules Doc Reason) (i : ℕ) (x : Member C Rules Doc Reason) (new : Authority C Rules Doc Reason) (next : Member C Rules Doc Reason)
      → new.first ≡ s.authority.first → MemberMoved m rules s.authority x new next → Grown s (placed s i new next)
  moved-grown s i x new next first h = record { first = first; more = h.more; log_is = h.log_is }

  pub line-grown : {Op : Type 0} (makes : Doc → Op → Result (List C) NoStep) (s : State C Rules Doc Reason) (line : Line Op C) → Sound m rules s → SuitsRoom s line
      → Grown s (played m rules makes s line).1
  line-grown makes s line sound suits =
      let a = s.authority in
      let x = suits.member in
      let stands = (sound.stand line.client x suits.at).1 in
      let p = acted m rules makes a line.act x in
      subst (λ o. Grown s (by_some s line.client o (acted m rules makes a line.act)).1) (sym suits.at)
      (moved-grown s line.client x p.1 p.2 (acted-rested m rules laws a sound.authority makes x stands line.act).first
      (member-acted m rules laws a sound.authority makes x stands line.act suits.suits))

  pub left-grown : {Op : Type 0} (s : State C Rules Doc Reason) (line : Line Op C) (t : State C Rules Doc Reason) → Sound m rules s → LeftByLine m rules s line t → Grown s t
  left-grown s line t sound l =
      let a = s.authority in
      let stands = (sound.stand line.client l.member l.at).1 in
      subst (Grown s) (sym l.left_is)
      (moved-grown s line.client l.member l.authority l.next (left-rested m rules laws a sound.authority line.act l.member stands l.authority l.next l.left).first
      (member-left m rules laws a sound.authority line.act l.member stands l.authority l.next l.left))

  -- ---- settling

  exchanged-first : (a : Authority C Rules Doc Reason) (kind : MessageKind) (x : Member C Rules Doc Reason) → (member_exchanges m rules a kind x).1.first ≡ a.first
  exchanged-first a kind (Editor c) = presented-first m rules a (message_of c kind)
  exchanged-first a kind (Raw name serial) = refl

  exchange-grown : (kind : MessageKind) (i : ℕ) (s : State C Rules Doc Reason) → Sound m rules s → Grown s (exchanged m rules kind i s)
  exchange-grown kind i s sound = from (slice_get s.members i) refl
    where
      from : (o : Option (Member C Rules Doc Reason)) → slice_get s.members i ≡ o → Grown s (by_some s i o (member_exchanges m rules s.authority kind)).1
      from None e = grown-same s
      from (Some x) e =
          let p = member_exchanges m rules s.authority kind x in
          moved-grown s i x p.1 p.2 (exchanged-first s.authority kind x) (member-exchanged m rules laws s.authority sound.authority kind x (sound.stand i x e).1)

  brought-sound : (i : ℕ) (s : State C Rules Doc Reason) → Sound m rules s → Sound m rules (brought_up m rules i s)
  brought-sound i s sound = exchanged-sound m rules laws Submission i (exchanged m rules Asking i s) (exchanged-sound m rules laws Asking i s sound)

  brought-grown : (i : ℕ) (s : State C Rules Doc Reason) → Sound m rules s → Grown s (brought_up m rules i s)
  brought-grown i s sound =
      let t = exchanged m rules Asking i s in
      grown-then s t (brought_up m rules i s) (exchange-grown Asking i s sound) (exchange-grown Submission i t (exchanged-sound m rules laws Asking i s sound))

  turns-grown : (does : ℕ → State C Rules Doc Reason → State C Rules Doc Reason) → ((i : ℕ) (s : State C Rules Doc Reason) → Sound m rules s → Sound m rules (does i s))
      → ((i : ℕ) (s : State C Rules Doc Reason) → Sound m rules s → Grown s (does i s))
      → (k n : ℕ) (s : State C Rules Doc Reason) → Sound m rules s → Grown s (in_turn does k n s)
  turns-grown does keeps grows k zero s sound = grown-same s
  turns-grown does keeps grows k (suc n) s sound =
      grown-then s (does k s) (in_turn does (k + 1) n (does k s)) (grows k s sound) (turns-grown does keeps grows (k + 1) n (does k s) (keeps k s sound))

  up-sound : (n : ℕ) (s : State C Rules Doc Reason) → Sound m rules s → Sound m rules (in_turn (brought_up m rules) 0 n s)
  up-sound n s sound = turns-sound m rules laws (brought_up m rules) brought-sound 0 n s sound

  up-grown : (n : ℕ) (s : State C Rules Doc Reason) → Sound m rules s → Grown s (in_turn (brought_up m rules) 0 n s)
  up-grown n s sound = turns-grown (brought_up m rules) brought-sound brought-grown 0 n s sound

  asks-grown : (n : ℕ) (s : State C Rules Doc Reason) → Sound m rules s → Grown s (in_turn (exchanged m rules Asking) 0 n s)
  asks-grown n s sound = turns-grown (exchanged m rules Asking) (exchanged-sound m rules laws Asking) (exchange-grown Asking) 0 n s sound

  pub settled-grown : (s : State C Rules Doc Reason) → Sound m rules s → Grown s (settled m rules s)
  settled-grown s sound =
      let n = length s.members in
      let up = in_turn (brought_up m rules) 0 n s in
      grown-then s up (settled m rules s) (up-grown n s sound) (asks-grown n up (up-sound n s sound))

  left-first : (a new : Authority C Rules Doc Reason) (kind : MessageKind) (x next : Member C Rules Doc Reason)
      → LeftByMember (new ≡ a) (AuthorityTells m rules a new) kind x next → new.first ≡ a.first
  left-first a new kind (Raw name serial) next h = ap (λ (b : Authority C Rules Doc Reason). b.first) h.0
  left-first a new kind (Editor c) next (inl h) = ap (λ (b : Authority C Rules Doc Reason). b.first) h.0
  left-first a new kind (Editor c) next (inr (inl h)) = ap (λ (b : Authority C Rules Doc Reason). b.first) h.0
  left-first a new kind (Editor c) next (inr (inr (inl h))) =
      ap (λ p. p.1.first) h.1 ∙ presented-first m rules a (message_of c kind)
  left-first a new kind (Editor c) next (inr (inr (inr h))) =
      ap (λ p. p.1.first) h.1 ∙ presented-first m rules a (message_of c kind)

  exchanging-grown : (kind : MessageKind) (i : ℕ) (s t : State C Rules Doc Reason) → Sound m rules s → LeftByExchange m rules kind i s t → Grown s t
  exchanging-grown kind i s t sound l =
      let a = s.authority in
      let stands = (sound.stand i l.member l.at).1 in
      subst (Grown s) (sym l.left_is)
      (moved-grown s i l.member l.authority l.next (left-first a l.authority kind l.member l.next l.left)
      (member-exchanging m rules laws a sound.authority kind l.member stands l.authority l.next l.left))

  pub settling-grown : (s t : State C Rules Doc Reason) → Sound m rules s → LeftBySettle m rules s t → Grown s t
  settling-grown s t sound (inl h) = by-part h.left
    where
      up : State C Rules Doc Reason
      up = in_turn (brought_up m rules) 0 h.i s

      by-part : LeftByExchange m rules Asking h.i up t ⊎ LeftByExchange m rules Submission h.i (exchanged m rules Asking h.i up) t → Grown s t
      by-part (inl l) = grown-then s up t (up-grown h.i s sound) (exchanging-grown Asking h.i up t (up-sound h.i s sound) l)
      by-part (inr l) =
          let asked = exchanged m rules Asking h.i up in
          let stood = up-sound h.i s sound in
          grown-then s up t (up-grown h.i s sound)
          (grown-then up asked t (exchange-grown Asking h.i up stood) (exchanging-grown Submission h.i asked t (exchanged-sound m rules laws Asking h.i up stood) l))
  settling-grown s t sound (inr h) =
      let n = length s.members in
      let up = in_turn (brought_up m rules) 0 n s in
      let asked = in_turn (exchanged m rules Asking) 0 h.i up in
      let stood = up-sound n s sound in
      grown-then s up t (up-grown n s sound)
      (grown-then up asked t (asks-grown h.i up stood)
      (exchanging-grown Asking h.i asked t (turns-sound m rules laws (exchanged m rules Asking) (exchanged-sound m rules laws Asking) 0 h.i up stood) h.left))
