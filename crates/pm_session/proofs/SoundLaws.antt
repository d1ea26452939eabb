-- Each line keeps a room sound.
use Rattle.std.specs.List.{AllByRecursion as Each}
use Rattle.std.specs.Prelude.{◌≡◌, ◌⊎◌, ℕ, zero, suc, ◌-◌, ◌≤◌, ◌<◌, ◌==◌, Bool, true, false, if◌then◌else◌, List, [], ◌∷◌, ◌++◌, length, slice_get, slice_set, Some, Result, Ok, Err, refl}
use Rattle.std.proofs.Common.{sym, ap, subst, inl, inr, arith, append-nil, length-append}
use Rattle.std.proofs.lemmas.Bool.{eqb-true}
use Rattle.pm_change.specs.Changes.{Meaning, Laws}
use Rattle.pm_authority.specs.declared.named.Named.{Named}
use Rattle.pm_authority.specs.declared.running.Refusal.{Refusal}
use Rattle.pm_authority.specs.declared.message.Message.{Message}
use Rattle.pm_authority.specs.declared.message.Message.TheVariants.{Submit as SubmitMessage, Ask as AskMessage}
use Rattle.pm_authority.specs.declared.message.Answer.TheVariants.{WrongVersion}
use Rattle.pm_authority.specs.declared.authority.Authority.{Authority}
use Rattle.pm_authority.specs.Runs.{run}
use Rattle.pm_authority.specs.Presents.{tried, presented}
use Rattle.pm_client.specs.declared.client.Client.{Client}
use Rattle.pm_client.specs.declared.taken.MessageKind.{MessageKind}
use Rattle.pm_client.specs.declared.taken.MessageKind.TheVariants.{Submit as Submission, Ask as Asking}
use Rattle.pm_client.specs.Clients.{message_of, message_at}
use Rattle.pm_client.specs.Kins.{IsOwn, MessageStands, Kin}
use Rattle.pm_client.proofs.Lists.{Each-front}
use Rattle.pm_client.proofs.Takings.{get-index}
use Rattle.pm_client.proofs.Keeps.{doc-good}
use Rattle.pm_session.specs.Sounds.{IsOfOne}

-- a list with another item at i: it is that item there, and the old one elsewhere
pub get-set : {A : Type 0} (xs : List A) (i k : ℕ) (v x : A) → slice_get (slice_set xs i v) k ≡ Some x
    → ((k ≡ i) × (x ≡ v)) ⊎ ((k ≡ i → ⊥) × (slice_get xs k ≡ Some x))
get-set [] i k v x h = absurd (cc)
get-set (y ∷ ys) zero zero v x h = inl (refl, (let e : v ≡ x = cc in sym e))
get-set (y ∷ ys) zero (suc k) v x h = inr ((λ e. cc), h)
get-set (y ∷ ys) (suc i) zero v x h = inr ((λ e. cc), h)
get-set (y ∷ ys) (suc i) (suc k) v x h = more (get-set ys i k v x h)
  where
    more : ((k ≡ i) × (x ≡ v)) ⊎ ((k ≡ i → ⊥) × (slice_get ys k ≡ Some x)) → ((suc k ≡ suc i) × (x ≡ v)) ⊎ ((suc k ≡ suc i → ⊥) × (slice_get ys k ≡ Some x))
    more (inl h) = inl (ap suc h.0, h.1)
    more (inr h) = inr ((λ e. h.0 (omega arith)), h.1)

pub set-length : {A : Type 0} (xs : List A) (i : ℕ) (v : A) → length (slice_set xs i v) ≡ length xs
set-length [] i v = refl
set-length (x ∷ xs) zero v = refl
set-length (x ∷ xs) (suc i) v = ap suc (set-length xs i v)

-- each entry is of one of as many clients
pub of-one : {C : Type 0} (client n : ℕ) (log : List (Named C)) → client < n → Each (IsOwn client) log → Each (IsOfOne n) log
of-one client n [] l own = tt
of-one client n (x ∷ log) l own = (omega (arith, l, own.0), of-one client n log l own.1)

module _ {Rules Doc Reason C : Type 0} (m : Meaning Rules Doc Reason C) (rules : Rules) (laws : Laws m) where
  -- a client that stands to a log has a good document
  pub kin-good : (first : Doc) (log : List (Named C)) (c : Client C Rules Doc Reason) → Kin m rules first log c → m.is_good rules c.doc
  kin-good first log c kin = doc-good m rules first log c kin laws

  -- the message of this number stands
  pub message-stands : (first : Doc) (log : List (Named C)) (c : Client C Rules Doc Reason) → Kin m rules first log c
      → (j : ℕ) (x : Message C) → message_at c j ≡ Some x → MessageStands c.version c.pending x
  message-stands first log c kin j x e =
      let g = get-index c.messages (j - 1) x e in
      subst (λ y. MessageStands c.version c.pending y) (g.1 x) (kin.messages (j - 1) x g.0)

  -- a message just composed stands
  pub new-stands : (c : Client C Rules Doc Reason) (kind : MessageKind) → MessageStands c.version c.pending (message_of c kind)
  new-stands c Submission = (omega arith, λ e. ([], append-end c.pending))
    where
      append-end : (xs : List (Named C)) → xs ++ [] ≡ xs
      append-end [] = refl
      append-end (x ∷ xs) = ap (λ l. x ∷ l) (append-end xs)
  new-stands c Asking = omega arith

  -- what a presented message adds to the log is the client's own
  pub presented-own : (a : Authority C Rules Doc Reason) (c : Client C Rules Doc Reason) → Kin m rules a.first a.log c → (message : Message C) → MessageStands c.version c.pending message
      → (more : List (Named C)) × ((presented m rules a message).1.log ≡ a.log ++ more) × Each (IsOwn c.name) more
  presented-own a c kin (AskMessage version) h = ([], sym (append-nil a.log), tt)
  presented-own a c kin (SubmitMessage version steps) h = by-test (version == length a.log) refl
    where
      past : c.version ≤ length a.log
      past = omega (arith, kin.version_is, ap length kin.log_is, length-append kin.before kin.past)

      by-run : (r : Result Doc (Refusal Reason)) → Each (IsOwn c.name) steps
          → (more : List (Named C)) × ((tried m rules a steps r).1.log ≡ a.log ++ more) × Each (IsOwn c.name) more
      by-run (Ok end) own = (steps, refl, own)
      by-run (Err e) own = ([], sym (append-nil a.log), tt)

      by-test : (t : Bool) → (version == length a.log) ≡ t
          → (more : List (Named C)) × ((if t then tried m rules a steps (run m rules a.doc 0 steps) else (WrongVersion (length a.log), a)).1.log ≡ a.log ++ more) × Each (IsOwn c.name) more
      by-test false e = ([], sym (append-nil a.log), tt)
      by-test true e =
          let same : version ≡ length a.log = eqb-true version (length a.log) e in
          let pre = h.1 (omega (arith, same, h.0, past)) in
          by-run (run m rules a.doc 0 steps) (Each-front (IsOwn c.name) steps pre.0 (rw (sym pre.1) at kin.own))
