-- What a member's act makes of it and of the authority, and that the room is sound after it.
use Rattle.std.specs.List.{AllByRecursion as Each}
use Rattle.std.specs.Prelude.{◌≡◌, ◌⊎◌, ℕ, ◌==◌, Bool, true, false, List, [], ◌++◌, length, slice_get, Some, Result, refl}
use Rattle.std.proofs.Common.{sym, ap, ◌∙◌, subst, inl, inr, arith, append-nil}
use Rattle.std.proofs.lemmas.Bool.{eq-eqb, eqb-true}
use Rattle.pm_change.specs.Changes.{Meaning, Laws}
use Rattle.pm_change.specs.declared.no_step.NoStep.{NoStep}
use Rattle.pm_authority.specs.declared.named.Named.{Named}
use Rattle.pm_authority.specs.declared.authority.Authority.{Authority}
use Rattle.pm_authority.specs.Kept.{IsKept}
use Rattle.pm_client.specs.declared.client.Client.{Client}
use Rattle.pm_client.specs.declared.taken.MessageKind.{MessageKind}
use Rattle.pm_client.specs.Kins.{IsOwn, Kin}
use Rattle.pm_client.proofs.Lists.{Each-append}
use Rattle.pm_client.proofs.LogNames.{LogOf, kin-log}
use Rattle.pm_client.specs.Serials.{own_serials}
use Rattle.pm_client.proofs.SerialLists.{own_serials-append, own_serials-foreign}
use Rattle.pm_client.proofs.Takings.{get-index}
use Rattle.pm_session.specs.declared.line.Act.{Act}
use Rattle.pm_session.specs.declared.line.Act.TheVariants.{Edit, Undo, Redo, UndoEvent, Cursor, Submit, Ask, Present, Take, Push, Pull, Forge, Enter}
use Rattle.pm_session.specs.declared.member.Member.{Member}
use Rattle.pm_session.specs.declared.member.Member.TheVariants.{Editor, Raw}
use Rattle.pm_session.specs.Events.{State, placed, member_exchanges, acted}
use Rattle.pm_session.specs.Left.{AuthorityTells, LeftBy, LeftByMember}
use Rattle.pm_session.specs.Members.{name_of, is_raw}
use Rattle.pm_session.specs.Sounds.{IsOfOne, IsDrawn, EditorStands, MemberStands, Sound}
use Rattle.pm_session.specs.Suits.{composes_one, gets_one, ActSuits}
use Rattle.pm_session.proofs.Editors.{exchanges_at, editor_acts, acted-editor, left-editor, exchanging as exchanging-editor}
use Rattle.pm_session.proofs.Forging.{drawn-foreign, others-foreign, forged}
use Rattle.pm_session.proofs.Lefts.{left-moved, exchanging}
use Rattle.pm_session.proofs.Moves.{Moved, exchanges-moved, acted-moved}
use Rattle.pm_session.proofs.SoundLaws.{get-set, set-length, of-one}

-- A member became the next one, and the authority the new one. Each editor of another name stands as before.
pub record MemberMoved {Rules Doc Reason C : Type 0} (m : Meaning Rules Doc Reason C) (rules : Rules) (a : Authority C Rules Doc Reason) (x : Member C Rules Doc Reason)
    (new : Authority C Rules Doc Reason) (next : Member C Rules Doc Reason) : Type 0 where
  pub name : name_of next ≡ name_of x
  pub kind : is_raw next ≡ is_raw x
  pub authority : IsKept m rules new
  pub stands : MemberStands m rules new.first new.log next
  pub other : (d : Client C Rules Doc Reason) → (name_of x ≡ d.name → ⊥) → Kin m rules a.first a.log d → Kin m rules new.first new.log d
  pub more : List (Named C)
  pub log_is : new.log ≡ a.log ++ more
  pub own : Each (IsOwn (name_of x)) more
  pub names : LogOf (name_of x) a.log → LogOf (name_of x) new.log

module _ {Rules Doc Reason C : Type 0} (m : Meaning Rules Doc Reason C) (rules : Rules) (laws : Laws m) where
  -- an editor
  pub editor-moved : (a : Authority C Rules Doc Reason) (c : Client C Rules Doc Reason) → EditorStands m rules a.first a.log c → (composes gets : Bool)
      (new : Authority C Rules Doc Reason) (next : Client C Rules Doc Reason) → Moved m rules a c composes gets new next → MemberMoved m rules a (Editor c) new (Editor next)
  editor-moved a c stands composes gets new next h = record {
    name = h.name;
    kind = refl;
    authority = h.after.authority;
    stands = record { kin = h.after.own; messages = h.named stands.messages };
    other = h.after.other;
    more = h.more;
    log_is = h.log_is;
    own = h.own;
    names = λ was. subst (λ k. LogOf k new.log) h.name (kin-log m rules new.first new.log next h.after.own);
  }

  module _ (a : Authority C Rules Doc Reason) (stood : IsKept m rules a) where
    -- a raw client, of which nothing was done
    raw-rests : (name serial : ℕ) → Each (IsDrawn name serial) a.log → MemberMoved m rules a (Raw name serial) a (Raw name serial)
    raw-rests name serial drawn = record {
      name = refl;
      kind = refl;
      authority = stood;
      stands = drawn;
      other = λ d apart k. k;
      more = [];
      log_is = sym (append-nil a.log);
      own = tt;
      names = λ was. was;
    }

    module _ {Op : Type 0} (makes : Doc → Op → Result (List C) NoStep) where
      raw-moved : (name serial : ℕ) → Each (IsDrawn name serial) a.log → (act : Act Op C) → ActSuits {Rules = Rules} {Doc = Doc} {Reason = Reason} (Raw name serial) act
          → MemberMoved m rules a (Raw name serial) (acted m rules makes a act (Raw name serial)).1 (acted m rules makes a act (Raw name serial)).2
      raw-moved name serial drawn (Forge version steps) h =
          let f = forged m rules laws a stood name serial drawn steps version in
          record {
            name = refl;
            kind = refl;
            authority = f.authority;
            stands = f.drawn;
            other = f.other;
            more = f.more;
            log_is = f.log_is;
            own = f.own;
            names = f.names;
          }
      raw-moved name serial drawn (Edit op event) h = absurd (cc)
      raw-moved name serial drawn Undo h = absurd (cc)
      raw-moved name serial drawn Enter h = absurd (cc)
      raw-moved name serial drawn Redo h = absurd (cc)
      raw-moved name serial drawn (UndoEvent number) h = absurd (cc)
      raw-moved name serial drawn (Cursor p side) h = absurd (cc)
      raw-moved name serial drawn Submit h = absurd (cc)
      raw-moved name serial drawn Ask h = absurd (cc)
      raw-moved name serial drawn (Present j) h = absurd (cc)
      raw-moved name serial drawn (Take n) h = absurd (cc)
      raw-moved name serial drawn (Push lost) h = absurd (cc)
      raw-moved name serial drawn (Pull lost) h = absurd (cc)

      -- an act that suits the member
      pub member-acted : (x : Member C Rules Doc Reason) → MemberStands m rules a.first a.log x → (act : Act Op C) → ActSuits x act
          → MemberMoved m rules a x (acted m rules makes a act x).1 (acted m rules makes a act x).2
      member-acted (Raw name serial) stands act suits = raw-moved name serial stands act suits
      member-acted (Editor c) stands act suits =
          subst (λ p. MemberMoved m rules a (Editor c) p.1 p.2) (sym (acted-editor m rules makes a act c))
          (editor-moved a c stands (composes_one act) (gets_one act) (editor_acts m rules makes a act c).1 (editor_acts m rules makes a act c).2
          (acted-moved m rules laws a stood c stands.kin makes act suits.1))

    -- an act that ran out of memory
    pub member-left : {Op : Type 0} (act : Act Op C) (x : Member C Rules Doc Reason) → MemberStands m rules a.first a.log x
        → (new : Authority C Rules Doc Reason) (next : Member C Rules Doc Reason) → LeftBy (new ≡ a) (AuthorityTells m rules a new) act x next → MemberMoved m rules a x new next
    member-left act (Raw name serial) stands new next h = rw (h.0, h.1) (raw-rests name serial stands)
    member-left act (Editor c) stands new next h =
        let l = left-editor m rules a new c next act h in
        let moves = left-moved m rules laws a stood c stands.kin act (new, l.0) l.2 in
        rw l.1 (editor-moved a c stands moves.0 moves.1 new l.0 moves.2)

    -- an exchange
    pub member-exchanged : (kind : MessageKind) (x : Member C Rules Doc Reason) → MemberStands m rules a.first a.log x
        → MemberMoved m rules a x (member_exchanges m rules a kind x).1 (member_exchanges m rules a kind x).2
    member-exchanged kind (Raw name serial) stands = raw-rests name serial stands
    member-exchanged kind (Editor c) stands =
        editor-moved a c stands true true (exchanges_at m rules a c kind false).1 (exchanges_at m rules a c kind false).2
        (exchanges-moved m rules laws a stood c stands.kin kind false)

    -- and one that ran out of memory
    pub member-exchanging : (kind : MessageKind) (x : Member C Rules Doc Reason) → MemberStands m rules a.first a.log x
        → (new : Authority C Rules Doc Reason) (next : Member C Rules Doc Reason) → LeftByMember (new ≡ a) (AuthorityTells m rules a new) kind x next → MemberMoved m rules a x new next
    member-exchanging kind (Raw name serial) stands new next h = rw (h.0, h.1) (raw-rests name serial stands)
    member-exchanging kind (Editor c) stands new next h =
        let l = exchanging-editor m rules a new c next kind h in
        let moves = exchanging m rules laws a stood c stands.kin kind (new, l.0) l.2 in
        rw l.1 (editor-moved a c stands moves.0 moves.1 new l.0 moves.2)

  module _ (s : State C Rules Doc Reason) (sound : Sound m rules s) (i : ℕ) (x : Member C Rules Doc Reason) (at : slice_get s.members i ≡ Some x)
      (new : Authority C Rules Doc Reason) (next : Member C Rules Doc Reason) (h : MemberMoved m rules s.authority x new next) where
    others-stand : (k : ℕ) (y : Member C Rules Doc Reason) → (k ≡ i → ⊥) → name_of y ≡ k → MemberStands m rules s.authority.first s.authority.log y
        → MemberStands m rules new.first new.log y
    others-stand k (Editor d) apart named stands =
        record { kin = h.other d (λ e. apart (sym named ∙ sym e ∙ (sound.stand i x at).0)) stands.kin; messages = stands.messages }
    others-stand k (Raw name serial) apart named stands =
        let foreign = others-foreign (name_of x) name h.more (λ e. apart (sym named ∙ sym e ∙ (sound.stand i x at).0)) h.own in
        rw h.log_is (Each-append (IsDrawn name serial) s.authority.log h.more stands (drawn-foreign name serial h.more foreign))

    log-after : (client : ℕ) → LogOf client new.log
    log-after client = by-test (name_of x == client) refl
      where
        was : (k : ℕ) → LogOf k s.authority.log
        was k = record { rise = sound.names.rise k; once = sound.names.once k }

        by-test : (b : Bool) → (name_of x == client) ≡ b → LogOf client new.log
        by-test true e = subst (λ k. LogOf k new.log) (eqb-true (name_of x) client e) (h.names (was (name_of x)))
        by-test false e =
            let apart : name_of x ≡ client → ⊥ = λ same. differ (name_of x) client e same in
            let none = own_serials-foreign client h.more (others-foreign (name_of x) client h.more apart h.own) in
            let is : own_serials client new.log ≡ own_serials client s.authority.log =
            ap (own_serials client) h.log_is ∙ own_serials-append client s.authority.log h.more ∙ ap (λ l. own_serials client s.authority.log ++ l) none
            ∙ append-nil (own_serials client s.authority.log) in
            record { rise = rw is (was client).rise; once = λ k. rw is ((was client).once k) }
          where
            differ : (a b : ℕ) → (a == b) ≡ false → a ≡ b → ⊥
            differ a b e same = let t : (a == b) ≡ true = eq-eqb a b same in absurd (cc)

    -- the room is sound when member i and the authority became others
    pub moved-sound : Sound m rules (placed s i new next)
    moved-sound = record {
      authority = h.authority;
      stand = λ k y at_y. here k y (get-set s.members i k next y at_y);
      entries = rw (set-length s.members i next, h.log_is) (Each-append (IsOfOne (length s.members)) s.authority.log h.more sound.entries
          (of-one (name_of x) (length s.members) h.more (omega (arith, (sound.stand i x at).0, (get-index s.members i x at).0)) h.own));
      names = record { once = λ client serial. (log-after client).once serial; rise = λ client. (log-after client).rise };
    }
      where
        here : (k : ℕ) (y : Member C Rules Doc Reason) → ((k ≡ i) × (y ≡ next)) ⊎ ((k ≡ i → ⊥) × (slice_get s.members k ≡ Some y))
            → (name_of y ≡ k) × MemberStands m rules new.first new.log y
        here k y (inl e) =
            let n : name_of next ≡ k = h.name ∙ (sound.stand i x at).0 ∙ sym e.0 in
            subst (λ (z : Member C Rules Doc Reason). (name_of z ≡ k) × MemberStands m rules new.first new.log z) (sym e.1) (n, h.stands)
        here k y (inr e) = let was = sound.stand k y e.1 in (was.0, others-stand k y e.0 was.0 was.1)
