-- What a client's calls leave of its name, its messages and its answers.
use Rattle.std.specs.Prelude.{◌≡◌, ℕ, ◌+◌, ◌-◌, ◌==◌, nat_le, Bool, true, false, if◌then◌else◌, List, [], ◌∷◌, ◌++◌, length, drop, slice_get, Option, Some, None, Result, Ok, Err, refl}
use Rattle.std.proofs.Common.{ap, sym, arith}
use Rattle.pm_change.specs.Changes.{Meaning}
use Rattle.pm_authority.specs.declared.named.Named.{Named}
use Rattle.pm_authority.specs.declared.running.Refusal.{Refusal}
use Rattle.pm_authority.specs.declared.message.Answer.{Answer}
use Rattle.pm_authority.specs.declared.message.Answer.TheVariants.{Accepted, WrongVersion, StepRefused, Entries}
use Rattle.pm_authority.specs.Runs.{run}
use Rattle.pm_history.specs.declared.branch.Event.{Event}
use Rattle.pm_history.specs.declared.turn.Turn.{Turn}
use Rattle.pm_history.specs.declared.branches.Branches.{Branches}
use Rattle.pm_history.specs.declared.branches.MadeBy.TheVariants.{Edit}
use Rattle.pm_history.specs.Histories.{noted_all}
use Rattle.pm_history.specs.Trims.{trimmed}
use Rattle.pm_history.specs.Timelines.{items_from}
use Rattle.pm_client.specs.declared.client.Client.{Client}
use Rattle.pm_client.specs.declared.taken.Taken.{Taken}
use Rattle.pm_client.specs.Clients.{named, own_run, gone_on, event_turned, edited, tried, given, kept, answer_at, confirmed, brought, carried, confirmed_first, rest_taken, taken, taken_if, taken_at}
use Rattle.pm_client.specs.Timelines.{edit_steps}

-- the same name, and the same messages and answers
pub record KeepsBox {Rules Doc Reason C : Type 0} (c new : Client C Rules Doc Reason) : Type 0 where
  pub name : new.name ≡ c.name
  pub messages : new.messages ≡ c.messages
  pub answers : new.answers ≡ c.answers

module _ {Rules Doc Reason C : Type 0} (m : Meaning Rules Doc Reason C) (rules : Rules) (c : Client C Rules Doc Reason) where
  all-kept : KeepsBox c c
  all-kept = record { name = refl; messages = refl; answers = refl }

  -- steps that were made: the client went on by them
  pub edited-on : (cs : List C) (event : Option ℕ) (next : Client C Rules Doc Reason) → edited m rules c cs event ≡ Ok next → (doc : Doc) × (h : Branches C) × (gone_on m c cs doc h ≡ next)
  edited-on cs event next h = from (run m rules c.doc 0 (named c.name (c.serials + 1) cs)) h
    where
      from : (r : Result Doc (Refusal Reason)) → tried m rules c cs event r ≡ Ok next → (doc : Doc) × (h : Branches C) × (gone_on m c cs doc h ≡ next)
      from (Err e) h = absurd (cc)
      from (Ok doc) h =
          let history : Branches C = trimmed (noted_all c.history (items_from m rules c.doc (edit_steps (named c.name (c.serials + 1) cs))) (Edit event true)) in
          let same : gone_on m c cs doc history ≡ next = cc in
          (doc, history, same)

  pub edited-keeps : (cs : List C) (event : Option ℕ) (next : Client C Rules Doc Reason) → edited m rules c cs event ≡ Ok next → KeepsBox c next
  edited-keeps cs event next h =
      let same = (edited-on cs event next h).2 in
      record {
        name = sym (ap (λ (x : Client C Rules Doc Reason). x.name) same);
        messages = sym (ap (λ (x : Client C Rules Doc Reason). x.messages) same);
        answers = sym (ap (λ (x : Client C Rules Doc Reason). x.answers) same);
      }

  -- an event that was undone or redone
  pub turned-keeps : (way : Turn) (e : Event) → KeepsBox c (event_turned m rules c way e).1
  turned-keeps way e = record { name = refl; messages = refl; answers = refl }

  -- What holds of the client, of the client with some pending steps confirmed, and of it with the later ones carried over
  -- others' steps holds of it once it took an answer.
  module _ (Q : Client C Rules Doc Reason → Type 0) (now : Q c) (confirms : (k : ℕ) (base : Doc) → Q (confirmed c k base))
      (brings : (own : ℕ) (foreign : List (Named C)) (base : Doc) → Q (brought m rules c own foreign base (carried m rules c own foreign base))) where
    given-one : (o : Option Doc) (next : Doc → Taken × Client C Rules Doc Reason) → ((d : Doc) → Q (next d).1) → Q (given c o next).1
    given-one None next h = now
    given-one (Some d) next h = h d

    either-one : (b : Bool) (p q : Taken × Client C Rules Doc Reason) → Q p.1 → Q q.1 → Q (if b then p else q).1
    either-one true p q g h = g
    either-one false p q g h = h

    first-one : (k : ℕ) → Q (confirmed_first m rules c k).1
    first-one k = given-one _ _ (λ d. confirms k d)

    rest-one : (rest : List (Named C)) (own : ℕ) → Q (rest_taken m rules c rest own).1
    rest-one rest own = either-one (own == length rest) _ _ (first-one own) (given-one _ _ (λ d. brings own (drop own rest) d))

    pub taken-one : (a : Answer C Rules Doc Reason) → Q (taken m rules c a).1
    taken-one (Accepted from count) = either-one (nat_le (from + count) c.version) _ _ now (first-one count)
    taken-one (WrongVersion n) = now
    taken-one (StepRefused index reason) = now
    taken-one (Entries since entries) =
        either-one (nat_le (since + length entries) c.version) _ _ now
        (rest-one (drop (c.version - since) entries) (own_run c.name (drop (c.version - since) entries)))

  -- an answer that was taken
  pub taken-keeps : (a : Answer C Rules Doc Reason) → KeepsBox c (taken m rules c a).1
  taken-keeps a =
      taken-one (λ d. KeepsBox c d) all-kept (λ k base. record { name = refl; messages = refl; answers = refl })
      (λ own foreign base. record { name = refl; messages = refl; answers = refl }) a

  pub taken_at-keeps : (i : ℕ) → KeepsBox c (taken_at m rules c i).1
  taken_at-keeps i = from (answer_at c i)
    where
      from : (o : Option (Answer C Rules Doc Reason)) → KeepsBox c (taken_if m rules c o).1
      from None = all-kept
      from (Some a) = taken-keeps a

get-last : {A : Type 0} (xs : List A) (x : A) → slice_get (xs ++ x ∷ []) (length xs) ≡ Some x
get-last [] x = refl
get-last (y ∷ xs) x = get-last xs x

-- the answer just kept is the one of the last number
pub answer-last : {Rules Doc Reason C : Type 0} (c : Client C Rules Doc Reason) (a : Answer C Rules Doc Reason) (n : ℕ) → n ≡ length c.answers + 1 → answer_at (kept c a) n ≡ Some a
answer-last c a n is = let e : n - 1 ≡ length c.answers = omega (arith, is) in rw e (get-last c.answers a)

-- so it is taken
pub taken-last : {Rules Doc Reason C : Type 0} (m : Meaning Rules Doc Reason C) (rules : Rules) (c : Client C Rules Doc Reason) (a : Answer C Rules Doc Reason) (n : ℕ)
    → n ≡ length c.answers + 1 → taken_at m rules (kept c a) n ≡ taken m rules (kept c a) a
taken-last m rules c a n is = rw (answer-last c a n is) refl
