-- What a line or an exchange leaves of a room, from what it left of the authority and the member.
use Rattle.std.specs.Prelude.{◌≡◌, ℕ, List, slice_get, Some, Result, Ok, Err, IfOk, OnOk, OnErr, refl}
use Rattle.std.proofs.Common.{sym, ap, ◌∙◌, subst}
use Rattle.pm_change.specs.Changes.{Meaning, Laws}
use Rattle.pm_change.specs.declared.no_step.NoStep.{NoStep}
use Rattle.pm_authority.specs.declared.authority.Authority.{Authority}
use Rattle.pm_client.specs.declared.taken.MessageKind.{MessageKind}
use Rattle.pm_session.specs.declared.line.Line.{Line}
use Rattle.pm_session.specs.declared.member.Member.{Member}
use Rattle.pm_session.specs.declared.outcome.Outcome.{Outcome}
use Rattle.pm_session.specs.Answers.{ExchangeHolds}
use Rattle.pm_session.specs.Events.{State, placed, by_member, member_exchanges, acted, played}
use Rattle.pm_session.specs.Left.{AuthorityTells, LeftBy, LeftByMember, LeftByLine, LeftByExchange}
use Rattle.pm_session.specs.Restoring.{Restores}
use Rattle.pm_session.specs.Sounds.{MemberStands, Sound}
use Rattle.pm_session.specs.Standing.{CursorsStay}
use Rattle.pm_session.specs.Suits.{SuitsMember, SuitsRoom}
use Rattle.pm_session.proofs.Holdings.{exchange-holds}
use Rattle.pm_session.proofs.MemberMoves.{member-left, member-exchanging, moved-sound}
use Rattle.pm_session.proofs.Playing.{played-sound}
use Rattle.pm_session.proofs.Restorings.{played-restores}
use Rattle.pm_session.proofs.Rooms.{left-rested, placed-stays, played-stays}
use Rattle.pm_session.proofs.Turns.{exchanged-sound}

module _ {Rules Doc Reason C : Type 0} (m : Meaning Rules Doc Reason C) (rules : Rules) where
  module _ (s : State C Rules Doc Reason) (sound : Sound m rules s) where
    -- the member that was read at a place stands
    pub member-there : (i : ℕ) (x : Member C Rules Doc Reason) → slice_get s.members i ≡ Some x → (read : Member C Rules Doc Reason) → read ≡ x
        → MemberStands m rules s.authority.first s.authority.log read
    member-there i x at read is = subst (MemberStands m rules s.authority.first s.authority.log) (sym is) (sound.stand i x at).1

    -- the line that suits the room suits the member that was read
    pub member-suits : {Op : Type 0} (line : Line Op C) (suits : SuitsRoom s line) (read : Member C Rules Doc Reason) → read ≡ suits.member → SuitsMember read line
    member-suits {Op} line suits read is =
        subst (λ (y : Member C Rules Doc Reason). SuitsMember y line) (sym is)
        (record { client = (sound.stand line.client suits.member suits.at).0; suits = suits.suits })

  module _ {Op : Type 0} (makes : Doc → Op → Result (List C) NoStep) (s : State C Rules Doc Reason) (line : Line Op C) (x : Member C Rules Doc Reason)
      (at : slice_get s.members line.client ≡ Some x) (read : Member C Rules Doc Reason) (is : read ≡ x) where
    pub one-played : (o : Outcome C Rules Doc Reason) (new : Authority C Rules Doc Reason) (next : Member C Rules Doc Reason)
        → (o, new, next) ≡ acted m rules makes s.authority line.act read → (o, placed s line.client new next) ≡ played m rules makes s line
    one-played o new next h =
        let p = acted m rules makes s.authority line.act x in
        let e : (o, new, next) ≡ p = h ∙ ap (acted m rules makes s.authority line.act) is in
        let zero : o ≡ p.0 = ap (λ q. q.0) e in
        let one : new ≡ p.1 = ap (λ q. q.1) e in
        let two : next ≡ p.2 = ap (λ q. q.2) e in
        rw at (rw (zero, one, two) refl)

    pub played-is : {E : Type 0} (r : Result (Outcome C Rules Doc Reason) E) (new : Authority C Rules Doc Reason) (next : Member C Rules Doc Reason)
        → IfOk r (λ o. (o, new, next) ≡ acted m rules makes s.authority line.act read)
        → IfOk r (λ o. (o, placed s line.client new next) ≡ played m rules makes s line)
    played-is (Ok o) new next h = one-played o new next h
    played-is (Err e) new next h = tt

  module _ {Op : Type 0} (s : State C Rules Doc Reason) (line : Line Op C) (x : Member C Rules Doc Reason) (at : slice_get s.members line.client ≡ Some x)
      (read : Member C Rules Doc Reason) (is : read ≡ x) where
    pub one-left : (new : Authority C Rules Doc Reason) (next : Member C Rules Doc Reason)
        → LeftBy (new ≡ s.authority) (AuthorityTells m rules s.authority new) line.act read next → LeftByLine m rules s line (placed s line.client new next)
    one-left new next h = record {
      member = x;
      authority = new;
      next = next;
      at = at;
      left = subst (λ (y : Member C Rules Doc Reason). LeftBy (new ≡ s.authority) (AuthorityTells m rules s.authority new) line.act y next) is h;
      left_is = refl;
    }

    pub line-left : {E : Type 0} (r : Result (Outcome C Rules Doc Reason) E) (new : Authority C Rules Doc Reason) (next : Member C Rules Doc Reason)
        → OnErr r (LeftBy (new ≡ s.authority) (AuthorityTells m rules s.authority new) line.act read next)
        → OnErr r (LeftByLine m rules s line (placed s line.client new next))
    line-left (Ok o) new next h = tt
    line-left (Err e) new next h = one-left new next h

  module _ (laws : Laws m) {Op : Type 0} (makes : Doc → Op → Result (List C) NoStep) (s : State C Rules Doc Reason) where
    module _ (sound : Sound m rules s) (line : Line Op C) (suits : SuitsRoom s line) (read : Member C Rules Doc Reason) (is : read ≡ suits.member) where
      -- whether a line ran out of memory or not, the room is sound after it
      pub line-sound : {E : Type 0} (r : Result (Outcome C Rules Doc Reason) E) (new : Authority C Rules Doc Reason) (next : Member C Rules Doc Reason)
          → IfOk r (λ o. (o, new, next) ≡ acted m rules makes s.authority line.act read)
          → OnErr r (LeftBy (new ≡ s.authority) (AuthorityTells m rules s.authority new) line.act read next) → Sound m rules (placed s line.client new next)
      line-sound (Ok o) new next h l =
          subst (Sound m rules) (sym (ap (λ p. p.1) (one-played makes s line suits.member suits.at read is o new next h))) (played-sound m rules laws makes s sound line suits)
      line-sound (Err e) new next h l =
          moved-sound m rules laws s sound line.client suits.member suits.at new next
          (member-left m rules laws s.authority sound.authority line.act suits.member (sound.stand line.client suits.member suits.at).1 new next
          (subst (λ (y : Member C Rules Doc Reason). LeftBy (new ≡ s.authority) (AuthorityTells m rules s.authority new) line.act y next) is l))

      -- and cursors stay
      pub line-stays : {E : Type 0} (r : Result (Outcome C Rules Doc Reason) E) (new : Authority C Rules Doc Reason) (next : Member C Rules Doc Reason)
          → IfOk r (λ o. (o, new, next) ≡ acted m rules makes s.authority line.act read)
          → OnErr r (LeftBy (new ≡ s.authority) (AuthorityTells m rules s.authority new) line.act read next) → CursorsStay m s (placed s line.client new next)
      line-stays (Ok o) new next h l =
          subst (CursorsStay m s) (sym (ap (λ p. p.1) (one-played makes s line suits.member suits.at read is o new next h))) (played-stays m rules laws makes s sound line suits)
      line-stays (Err e) new next h l =
          let left = subst (λ (y : Member C Rules Doc Reason). LeftBy (new ≡ s.authority) (AuthorityTells m rules s.authority new) line.act y next) is l in
          let stand = (sound.stand line.client suits.member suits.at).1 in
          let moved = member-left m rules laws s.authority sound.authority line.act suits.member stand new next left in
          placed-stays m rules laws s sound line.client suits.member suits.at new next (moved-sound m rules laws s sound line.client suits.member suits.at new next moved)
          moved.more moved.log_is (left-rested m rules laws s.authority sound.authority line.act suits.member stand new next left)

    pub line-restores : (line : Line Op C) (x : Member C Rules Doc Reason) → slice_get s.members line.client ≡ Some x → (read : Member C Rules Doc Reason) → read ≡ x
        → {E : Type 0} (r : Result (Outcome C Rules Doc Reason) E) (new : Authority C Rules Doc Reason) (next : Member C Rules Doc Reason)
        → IfOk r (λ o. (o, new, next) ≡ acted m rules makes s.authority line.act read) → OnOk r (Restores m rules s line (placed s line.client new next))
    line-restores line x at read is (Err e) new next h = tt
    line-restores line x at read is (Ok o) new next h =
        subst (Restores m rules s line) (sym (ap (λ p. p.1) (one-played makes s line x at read is o new next h))) (played-restores m rules laws makes s line)

  -- ---- exchanges

  module _ (s : State C Rules Doc Reason) (kind : MessageKind) (i : ℕ) (x : Member C Rules Doc Reason) (at : slice_get s.members i ≡ Some x) where
    pub exchange-is : {E : Type 0} (r : Result (Outcome C Rules Doc Reason) E) (new : Authority C Rules Doc Reason) (next : Member C Rules Doc Reason)
        → IfOk r (λ o. (o, new, next) ≡ member_exchanges m rules s.authority kind x)
        → IfOk r (λ o. (o, placed s i new next) ≡ by_member s i (member_exchanges m rules s.authority kind))
    exchange-is (Err e) new next h = tt
    exchange-is (Ok o) new next h =
        let p = member_exchanges m rules s.authority kind x in
        let zero : o ≡ p.0 = ap (λ q. q.0) h in
        let one : new ≡ p.1 = ap (λ q. q.1) h in
        let two : next ≡ p.2 = ap (λ q. q.2) h in
        rw at (rw (zero, one, two) refl)

    pub exchange-left : {E : Type 0} (r : Result (Outcome C Rules Doc Reason) E) (new : Authority C Rules Doc Reason) (next : Member C Rules Doc Reason)
        → OnErr r (LeftByMember (new ≡ s.authority) (AuthorityTells m rules s.authority new) kind x next) → OnErr r (LeftByExchange m rules kind i s (placed s i new next))
    exchange-left (Ok o) new next h = tt
    exchange-left (Err e) new next h = record { member = x; authority = new; next = next; at = at; left = h; left_is = refl }

    pub exchange-sound : Laws m → Sound m rules s → {E : Type 0} (r : Result (Outcome C Rules Doc Reason) E) (new : Authority C Rules Doc Reason) (next : Member C Rules Doc Reason)
        → IfOk r (λ o. (o, new, next) ≡ member_exchanges m rules s.authority kind x)
        → OnErr r (LeftByMember (new ≡ s.authority) (AuthorityTells m rules s.authority new) kind x next) → Sound m rules (placed s i new next)
    exchange-sound laws sound (Ok o) new next h l =
        let r : Result (Outcome C Rules Doc Reason) ℕ = Ok o in
        let is : (o, placed s i new next) ≡ by_member s i (member_exchanges m rules s.authority kind) = exchange-is r new next h in
        subst (Sound m rules) (sym (ap (λ p. p.1) is)) (exchanged-sound m rules laws kind i s sound)
    exchange-sound laws sound (Err e) new next h l =
        moved-sound m rules laws s sound i x at new next (member-exchanging m rules laws s.authority sound.authority kind x (sound.stand i x at).1 new next l)

    -- all holds of it that holds of an exchange
    pub exchange-held : Laws m → Sound m rules s → {E : Type 0} (r : Result (Outcome C Rules Doc Reason) E) (new : Authority C Rules Doc Reason) (next : Member C Rules Doc Reason)
        → IfOk r (λ o. (o, new, next) ≡ member_exchanges m rules s.authority kind x) → OnOk r (ExchangeHolds m rules kind i s (placed s i new next))
    exchange-held laws sound (Err e) new next h = tt
    exchange-held laws sound (Ok o) new next h =
        let r : Result (Outcome C Rules Doc Reason) ℕ = Ok o in
        let is : (o, placed s i new next) ≡ by_member s i (member_exchanges m rules s.authority kind) = exchange-is r new next h in
        subst (ExchangeHolds m rules kind i s) (sym (ap (λ p. p.1) is)) (exchange-holds m rules laws kind i s sound)
