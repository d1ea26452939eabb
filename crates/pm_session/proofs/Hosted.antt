-- A client whose message was answered by a host stands to the host's log.
use Rattle.std.specs.List.{AllByRecursion as Each}
use Rattle.std.specs.Prelude.{◌≡◌, ℕ, zero, suc, ◌-◌, List, [], ◌∷◌, ◌++◌, slice_get, Some}
use Rattle.std.proofs.Common.{sym, ◌∙◌, subst}
use Rattle.pm_change.specs.Changes.{Meaning, Laws, fold}
use Rattle.pm_change.proofs.Folds.{fold-good}
use Rattle.pm_authority.specs.declared.named.Named.{Named}
use Rattle.pm_authority.specs.declared.message.Message.{Message}
use Rattle.pm_authority.specs.declared.message.Answer.{Answer}
use Rattle.pm_authority.specs.declared.authority.Authority.{Authority}
use Rattle.pm_authority.specs.Kept.{IsKept}
use Rattle.pm_authority.specs.Presents.{presented}
use Rattle.pm_authority.specs.Requests.{NamedBy}
use Rattle.pm_authority.specs.Runs.{changes_of}
use Rattle.pm_client.specs.declared.client.Client.{Client}
use Rattle.pm_client.specs.declared.taken.MessageKind.{MessageKind}
use Rattle.pm_client.specs.Clients.{message_of, message_at, composed, kept, taken_at}
use Rattle.pm_client.proofs.Keeps.{kin-foreign, kin-composed}
use Rattle.pm_client.proofs.Lists.{Each-append}
use Rattle.pm_client.specs.Kins.{MessageStands, Kin}
use Rattle.pm_client.proofs.Takings.{kin-taken_at}
use Rattle.pm_session.specs.Hosts.{IsLog, IsAnswered}
use Rattle.pm_session.specs.Refusals.{RefusesNoStep}
use Rattle.pm_session.specs.Sounds.{EditorStands}
use Rattle.pm_session.proofs.Exchanges.{refuses-none}
use Rattle.pm_session.proofs.Keeping.{taken_at-keeps}
use Rattle.pm_session.proofs.Moves.{message-named, presented-moved, kept-moved}
use Rattle.pm_session.proofs.SoundLaws.{message-stands}
use Rattle.pm_session.proofs.Stays.{presented-first}

-- how a client stands once its message was answered, with the answer kept or not
pub record Hosted {Rules Doc Reason C : Type 0} (m : Meaning Rules Doc Reason C) (rules : Rules) (first : Doc) (c : Client C Rules Doc Reason)
    (answer : Answer C Rules Doc Reason) (new : List (Named C)) : Type 0 where
  pub unrefused : RefusesNoStep answer
  pub only : EditorStands m rules first new c
  pub keeping : EditorStands m rules first new (kept c answer)

module _ {Rules Doc Reason C : Type 0} (m : Meaning Rules Doc Reason C) (rules : Rules) (laws : Laws m) (first : Doc) (log : List (Named C)) (c : Client C Rules Doc Reason)
    (stands : EditorStands m rules first log c) where
  module _ (message : Message C) (fits : MessageStands c.version c.pending message) (answer : Answer C Rules Doc Reason) (new : List (Named C))
      (h : IsAnswered m rules c.name first log message answer new) where
    before : Kin m rules h.authority.first h.authority.log c
    before =
        let applies : fold m rules first (changes_of (log ++ h.others)) ≡ Some h.authority.doc =
        rw (h.first_is, h.log_is) at h.kept.folded in
        rw (h.first_is, h.log_is) (kin-foreign m rules first log c stands.kin h.others h.authority.doc h.foreign applies)

    to-new : (d : Client C Rules Doc Reason) → Kin m rules (presented m rules h.authority message).1.first (presented m rules h.authority message).1.log d → Kin m rules first new d
    to-new d k =
        let f : (presented m rules h.authority message).1.first ≡ first = presented-first m rules h.authority message ∙ h.first_is in
        subst (λ l. Kin m rules first l d) (sym h.new_is) (subst (λ x. Kin m rules x (presented m rules h.authority message).1.log d) f k)

    pub hosted : Hosted m rules first c answer new
    hosted =
        let one = presented-moved m rules laws h.authority h.kept c before message fits in
        let two = kept-moved m rules laws h.authority h.kept c before message fits in
        record {
          unrefused = subst RefusesNoStep (sym h.answer_is) (refuses-none m rules laws h.authority h.kept c before message fits);
          only = record { kin = to-new c one.after.own; messages = stands.messages };
          keeping = record {
            kin = subst (λ x. Kin m rules first new (kept c x)) (sym h.answer_is) (to-new (kept c (presented m rules h.authority message).0) two.after.own);
            messages = stands.messages;
          };
        }

  -- an answer that was kept is taken
  pub taken-stands : (n : ℕ) → EditorStands m rules first log (taken_at m rules c n).1
  taken-stands n =
      let box = taken_at-keeps m rules c n in
      record { kin = kin-taken_at m rules first log c stands.kin laws n; messages = rw (box.name, box.messages) stands.messages }

  -- an authority with the log of a host
  module _ (log_is : IsLog m rules first log) where
    abbrev pub holder : Authority C Rules Doc Reason
    holder = record { first = first; doc = log_is.applies.0; log = log }

    pub holder-kept : IsKept m rules holder
    holder-kept = record {
      first_good = log_is.first_good;
      good = fold-good m rules laws first log_is.applies.0 (changes_of log) log_is.first_good log_is.applies.1;
      folded = log_is.applies.1;
    }

-- what holds of a client and a message holds of equal ones
pub at-both : {C : Type 0} (P : ℕ → Message C → Type 0) (n k : ℕ) (x y : Message C) → n ≡ k → x ≡ y → P n x → P k y
at-both P n k x y e f h = subst (λ z. P k z) f (subst (λ i. P i x) e h)

module _ {Rules Doc Reason C : Type 0} (m : Meaning Rules Doc Reason C) (rules : Rules) where
  -- a host that is as before
  pub same-host : {H : Type 0} (first_of : H → Doc) (log_of : H → List (Named C)) (old new : H) → new ≡ old → (c d : Client C Rules Doc Reason) → d ≡ c
      → EditorStands m rules (first_of old) (log_of old) c → EditorStands m rules (first_of new) (log_of new) d
  same-host first_of log_of old new e c d f h = rw (e, f) h

  -- a client that composed a message stands
  pub composer-stands : (first : Doc) (log : List (Named C)) (c : Client C Rules Doc Reason) → EditorStands m rules first log c → (kind : MessageKind)
      → EditorStands m rules first log (composed c kind)
  composer-stands first log c stands kind = record {
    kin = kin-composed m rules first log c stands.kin kind;
    messages = Each-append (NamedBy c.name) c.messages (message_of c kind ∷ []) stands.messages (message-named c kind stands.kin.own, tt);
  }

  -- the message of a number that a client has was answered by a host with equal rules, which begins as before
  pub presenting : Laws m → (first : Doc) (log : List (Named C)) (c : Client C Rules Doc Reason) → EditorStands m rules first log c
      → (j : ℕ) (x : Message C) → message_at c j ≡ Some x → (name : ℕ) → name ≡ c.name
      → (answer : Answer C Rules Doc Reason) (new : List (Named C)) → IsAnswered m rules name first log x answer new
      → (first_new : Doc) → first_new ≡ first → Hosted m rules first_new c answer new
  presenting laws first log c stands j x at name name_is answer new h first_new first_is =
      let one : IsAnswered m rules c.name first log x answer new =
      subst (λ k. IsAnswered m rules k first log x answer new) name_is h in
      subst (λ f. Hosted m rules f c answer new) (sym first_is)
      (hosted m rules laws first log c stands x (message-stands m rules laws first log c stands.kin j x at) answer new one)

  -- so it is with a message just composed
  pub sending : Laws m → (first : Doc) (log : List (Named C)) (c : Client C Rules Doc Reason) → EditorStands m rules first log c → (kind : MessageKind)
      → (composer : Client C Rules Doc Reason) → composer ≡ composed c kind → (j : ℕ) (x : Message C) → message_at composer j ≡ Some x
      → (name : ℕ) → name ≡ composer.name
      → (answer : Answer C Rules Doc Reason) (new : List (Named C)) → IsAnswered m rules name first log x answer new
      → (first_new : Doc) → first_new ≡ first → Hosted m rules first_new composer answer new
  sending laws first log c stands kind composer is j x at =
      presenting laws first log composer (subst (EditorStands m rules first log) (sym is) (composer-stands first log c stands kind)) j x at
