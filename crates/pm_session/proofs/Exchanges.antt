-- The parts of an exchange, and what its steps give.
use Rattle.std.specs.Prelude.{◌≡◌, ℕ, ◌+◌, ◌-◌, Bool, true, false, List, [], ◌∷◌, ◌++◌, length, slice_get, Some, None, Result, Ok, Err, OnErr, refl}
use Rattle.std.proofs.Common.{sym, ap, ◌∙◌, arith}
use Rattle.pm_change.specs.Changes.{Meaning, Laws}
use Rattle.pm_authority.specs.declared.authority.Authority.{Authority}
use Rattle.pm_authority.specs.declared.message.Message.{Message}
use Rattle.pm_authority.specs.declared.message.Answer.{Answer}
use Rattle.pm_authority.specs.declared.message.Answer.TheVariants.{Accepted, WrongVersion, StepRefused, Entries}
use Rattle.pm_authority.specs.Kept.{IsKept}
use Rattle.pm_authority.specs.Presents.{presented}
use Rattle.pm_client.specs.declared.client.Client.{Client}
use Rattle.pm_client.specs.declared.taken.MessageKind.{MessageKind}
use Rattle.pm_client.specs.declared.taken.Taken.{Taken}
use Rattle.pm_client.specs.Clients.{message_of, message_at, composed, kept, taken, taken_at}
use Rattle.pm_client.specs.Kins.{MessageStands, Kin}
use Rattle.pm_client.proofs.Answering.{never-refused}
use Rattle.pm_session.specs.declared.outcome.AnswerSummary.{AnswerSummary}
use Rattle.pm_session.specs.declared.outcome.Outcome.TheVariants.{Exchanged}
use Rattle.pm_session.specs.Events.{told, exchanges}
use Rattle.pm_session.specs.Refusals.{RefusesNoStep}
use Rattle.pm_session.proofs.Keeping.{taken-last}

pub on-err : {T E P : Type 0} (r : Result T E) → P → OnErr r P
on-err (Ok x) p = tt
on-err (Err e) p = p

get-last : {A : Type 0} (xs : List A) (x : A) → slice_get (xs ++ x ∷ []) (length xs) ≡ Some x
get-last [] x = refl
get-last (y ∷ xs) x = get-last xs x

module _ {Rules Doc Reason C : Type 0} (m : Meaning Rules Doc Reason C) (rules : Rules) (laws : Laws m) (a : Authority C Rules Doc Reason) (stood : IsKept m rules a)
    (c : Client C Rules Doc Reason) (kin : Kin m rules a.first a.log c) where
  -- no message that stands is refused for a step
  pub refuses-none : (message : Message C) → MessageStands c.version c.pending message → RefusesNoStep (presented m rules a message).0
  refuses-none message stands = from (presented m rules a message).0 refl
    where
      from : (x : Answer C Rules Doc Reason) → (presented m rules a message).0 ≡ x → RefusesNoStep x
      from (Accepted at count) e = tt
      from (WrongVersion n) e = tt
      from (StepRefused index reason) e = absurd (never-refused m rules laws a c stood kin message stands index reason e)
      from (Entries since entries) e = tt

-- the message just composed is the one of the last number
pub last-message : {Rules Doc Reason C : Type 0} (c composer : Client C Rules Doc Reason) (kind : MessageKind) (n : ℕ) (x : Message C) → composer ≡ composed c kind
    → n ≡ length c.messages + 1 → message_at composer n ≡ Some x → x ≡ message_of c kind
last-message c composer kind n x is number at =
    let place : n - 1 ≡ length c.messages = omega (arith, number) in
    let last : slice_get (c.messages ++ message_of c kind ∷ []) (length c.messages) ≡ Some (message_of c kind) = get-last c.messages (message_of c kind) in
    let here : slice_get (c.messages ++ message_of c kind ∷ []) (length c.messages) ≡ Some x = rw (is, place) at at in
    cc

module _ {Rules Doc Reason C : Type 0} (m : Meaning Rules Doc Reason C) (rules : Rules) (a : Authority C Rules Doc Reason) (c : Client C Rules Doc Reason) (kind : MessageKind)
    (new : Authority C Rules Doc Reason) (answer : Answer C Rules Doc Reason) where
  -- the message of this kind was composed and presented
  pub record Sent : Type 0 where
    pub answer_is : answer ≡ (presented m rules a (message_of c kind)).0
    pub authority_is : new ≡ (presented m rules a (message_of c kind)).1

  pub sent : (x : Message C) → x ≡ message_of c kind → answer ≡ (presented m rules a x).0 → new ≡ (presented m rules a x).1 → Sent
  sent x is e f = record { answer_is = rw is at e; authority_is = rw is at f }

-- how an exchange ends
module _ {Rules Doc Reason C : Type 0} (m : Meaning Rules Doc Reason C) (rules : Rules) (c : Client C Rules Doc Reason) (kind : MessageKind) (answer : Answer C Rules Doc Reason)
    (t : AnswerSummary C Rules Doc Reason) (is : t ≡ told answer) (keeper : Client C Rules Doc Reason) (keeps : keeper ≡ kept (composed c kind) answer) where
  pub lost-ends : (lost : Bool) → lost ≡ true → (Exchanged t None, keeper) ≡ exchanges m rules c kind lost (Some answer)
  lost-ends lost l = rw (l, is, keeps) refl

  pub taken-ends : (lost : Bool) → lost ≡ false → (n : ℕ) → n ≡ length c.answers + 1 → (x : Taken) (end : Client C Rules Doc Reason)
      → (x, end) ≡ taken_at m rules keeper n → (Exchanged t (Some x), end) ≡ exchanges m rules c kind lost (Some answer)
  taken-ends lost l n number x end took =
      let same : (x, end) ≡ taken m rules keeper answer = took ∙ ap (λ k. taken_at m rules k n) keeps ∙ taken-last m rules (composed c kind) answer n number
      ∙ ap (λ k. taken m rules k answer) (sym keeps) in
      let one : x ≡ (taken m rules keeper answer).0 = ap (λ p. p.0) same in
      let two : end ≡ (taken m rules keeper answer).1 = ap (λ p. p.1) same in
      rw (l, is, one, two, keeps) refl
