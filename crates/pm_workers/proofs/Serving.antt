-- What a seat of a desk tells of a client's message, as of a host's.
use Rattle.std.specs.List.{AllByRecursion as Each}
use Rattle.std.proofs.Common.{◌≡◌, ◌≢◌, ◌==◌, ℕ, zero, suc, Bool, true, false, if◌then◌else◌, List, [], ◌∷◌, ◌++◌, length, All, cond, Result, Ok, Err, refl, sym, ap, ◌∙◌, subst, arith, append-nil, append_assoc, eq-eqb, ne_eqb}
use mathlib.Core.Logic.{dite}
use native.Mathlib.Decide.{ℕ_discrete}
use Rattle.pm_change.specs.Changes.{Meaning}
use Rattle.pm_authority.specs.declared.authority.Authority.{Authority}
use Rattle.pm_authority.specs.declared.named.Named.{Named}
use Rattle.pm_authority.specs.declared.machine.Request.{Request}
use Rattle.pm_authority.specs.declared.message.Message.{Message}
use Rattle.pm_authority.specs.declared.message.Message.TheVariants.{Submit, Ask}
use Rattle.pm_authority.specs.declared.message.Answer.{Answer}
use Rattle.pm_authority.specs.declared.message.Answer.TheVariants.{WrongVersion}
use Rattle.pm_authority.specs.declared.running.Refusal.{Refusal}
use Rattle.pm_authority.specs.Presents.{tried, presented}
use Rattle.pm_authority.specs.Requests.{NamedBy, IsOwn}
use Rattle.pm_authority.specs.Runs.{run, AllApply}
use Rattle.pm_client.specs.Kins.{IsForeign}
use Rattle.pm_client.proofs.Lists.{Each-append}
use Rattle.pm_desk.specs.declared.history.Past.{Past}
use Rattle.pm_desk.specs.Desks.{DeskValue, SeatValue}
use Rattle.pm_desk.specs.Histories.{state_at, calls_of, past, Owned}
use Rattle.pm_desk.proofs.Histories.{calls_of-append, state_at-push}
use Rattle.pm_session.specs.Hosts.{IsLog, IsAnswered}
use Rattle.pm_session.proofs.Stays.{presented-first}
use Rattle.pm_workers.specs.Seats.{request_of, IsSound, authority_after, Serves, Answers}
use Rattle.pm_workers.specs.Threads.{after_request}
use Rattle.pm_workers.proofs.Seatings.{none-behind}

-- the state after a longer history
pub state_at-append : {M R Q : Type 0} (next : R → M → Q → M) (rules : R) (a : M) (xs ys : List (Past Q))
    → state_at next rules a (xs ++ ys) ≡ state_at next rules (state_at next rules a xs) ys
state_at-append next rules a [] ys = refl
state_at-append next rules a (x ∷ xs) ys = state_at-append next rules (next rules a x.request) xs ys

-- the later calls of a history are their seats' own too
owned-behind : {Q : Type 0} (own : ℕ → Q → Type 0) (xs ys : List (Past Q)) → Owned own (xs ++ ys) → Owned own ys
owned-behind own [] ys h = h
owned-behind own (x ∷ xs) ys h = owned-behind own xs ys (λ k e at. h (suc k) e at)

-- steps that one client named are another's to each other client
are-foreign : {C : Type 0} (k n : ℕ) (steps : List (Named C)) → k ≢ n → All (λ s. s.name.client ≡ k) steps → Each (IsForeign n) steps
are-foreign k n [] ne h = tt
are-foreign k n (s ∷ steps) ne h =
    let first : s.name.client ≡ k = h 0 s (omega arith) in
    (λ e. ne (sym first ∙ e), are-foreign k n steps ne (λ i d lt. h (suc i) d (omega (arith, lt))))

-- A log with foreign entries more.
abbrev AddsForeign : {C : Type 0} → ℕ → List (Named C) → List (Named C) → Type 0
AddsForeign {C} n log new = (others : List (Named C)) × (new ≡ log ++ others) × Each (IsForeign n) others

module _ {Rules Doc Reason C : Type 0} (m : Meaning Rules Doc Reason C) (rules : Rules) where
  -- what another client presents adds entries that are foreign, or none
  presented-foreign : (n k : ℕ) → k ≢ n → (a : Authority C Rules Doc Reason) (message : Message C) → NamedBy k message → AddsForeign n a.log (presented m rules a message).1.log
  presented-foreign n k ne a (Ask version) named = ([], sym (append-nil a.log), tt)
  presented-foreign n k ne a (Submit version steps) named = by-test (version == length a.log)
    where
      by-run : (r : Result Doc (Refusal Reason)) → AddsForeign n a.log (tried m rules a steps r).1.log
      by-run (Ok end) = (steps, refl, are-foreign k n steps ne named)
      by-run (Err e) = ([], sym (append-nil a.log), tt)

      by-test : (t : Bool) → AddsForeign n a.log (if t then tried m rules a steps (run m rules a.doc 0 steps) else (WrongVersion (length a.log), a)).1.log
      by-test false = ([], sym (append-nil a.log), tt)
      by-test true = by-run (run m rules a.doc 0 steps)

  -- and so do calls of which none is the client's
  calls-foreign : (n : ℕ) (a : Authority C Rules Doc Reason) (es : List (Past (Request C))) → Owned IsOwn es → calls_of n es ≡ []
      → AddsForeign n a.log (state_at (after_request m) rules a es).log
  calls-foreign n a [] owned none = ([], sym (append-nil a.log), tt)
  calls-foreign n a (e ∷ es) owned none = dite (ℕ_discrete e.seat n)
      (λ same. let some : e.request ∷ calls_of n es ≡ [] = sym (ap (λ b. cond b (e.request ∷ calls_of n es) (calls_of n es)) (eq-eqb e.seat n same)) ∙ none in absurd (cc))
      (λ ne. let later : calls_of n es ≡ [] = sym (ap (λ b. cond b (e.request ∷ calls_of n es) (calls_of n es)) (ne_eqb e.seat n ne)) ∙ none in
      let next = after_request m rules a e.request in
      let one = presented-foreign n e.seat ne a e.request.message (owned zero e refl).1 in
      let rest = calls-foreign n next es (λ k x at. owned (suc k) x at) later in
      (one.0 ++ rest.0, rest.1 ∙ ap (λ l. l ++ rest.0) one.1 ∙ append_assoc a.log one.0 rest.0, Each-append (IsForeign n) one.0 rest.0 one.2 rest.2))

  -- calls leave the first document
  pub calls-first : (a : Authority C Rules Doc Reason) (es : List (Past (Request C))) → (state_at (after_request m) rules a es).first ≡ a.first
  calls-first a [] = refl
  calls-first a (e ∷ es) = calls-first (after_request m rules a e.request) es ∙ presented-first m rules a e.request.message

module _ {Rules Doc Reason C : Type 0} (m : Meaning Rules Doc Reason C) (d : DeskValue (Authority C Rules Doc Reason) Rules)
    (s : SeatValue (Authority C Rules Doc Reason) Rules (Request C)) where
  -- calls after which the authority is sound leave a host's log
  pub sound-log : (rules : Rules) → rules ≡ d.opening.rules → (seen : List (Past (Request C))) → IsSound m d.opening.rules (authority_after m d seen)
      → IsLog m rules d.opening.machine.first (authority_after m d seen).log
  sound-log rules is seen h =
      let a = authority_after m d seen in
      let first : a.first ≡ d.opening.machine.first = calls-first m d.opening.rules d.opening.machine seen in
      subst (λ r. IsLog m r d.opening.machine.first a.log) (sym is) (record {
        first_good = subst (λ x. m.is_good d.opening.rules x) first h.0.first_good;
        applies = (a.doc, subst (λ x. AllApply m d.opening.rules x a.log a.doc) first h.0.folded);
        short = h.1;
      })

  module _ (client : ℕ) (message : Message C) (answer : Answer C Rules Doc Reason) (t : SeatValue (Authority C Rules Doc Reason) Rules (Request C)) where
    -- what the seat has seen after a call
    seen-is : (told : Answers m d s client message answer t) → authority_after m d t.seen ≡ after_request m d.opening.rules (authority_after m d told.before) (request_of client message)
    seen-is told =
        ap (λ u. authority_after m d u.seen) told.seen
        ∙ state_at-push (after_request m) d.opening.rules d.opening.machine told.before (past s.number (request_of client message))

    -- a message that was answered at the seat was answered as at a host
    pub at-seat : (rules : Rules) → Serves m d s rules client → Answers m d s client message answer t
        → IsAnswered m rules client d.opening.machine.first (authority_after m d s.seen).log message answer (authority_after m d t.seen).log
    at-seat rules h told =
        let now = d.opening.rules in
        let a = authority_after m d s.seen in
        let rest = told.begins.0 in
        let whole : told.before ≡ s.seen ++ rest = told.begins.1 in
        let none : calls_of s.number rest ≡ [] =
        none-behind (calls_of s.number s.seen) (calls_of s.number rest) (sym (calls_of-append s.number s.seen rest) ∙ ap (calls_of s.number) (sym whole) ∙ told.calls) in
        let other = calls-foreign m now s.number a rest (owned-behind IsOwn s.seen rest (subst (Owned IsOwn) whole told.owned)) none in
        let there : authority_after m d told.before ≡ state_at (after_request m) now a rest =
        ap (authority_after m d) whole ∙ state_at-append (after_request m) now d.opening.machine s.seen rest in
        subst (λ r. IsAnswered m r client d.opening.machine.first a.log message answer (authority_after m d t.seen).log) (sym h.rules_are) (record {
          others = other.0;
          foreign = subst (λ n. Each (IsForeign n) other.0) h.number other.2;
          authority = authority_after m d told.before;
          first_is = calls-first m now d.opening.machine told.before;
          log_is = ap (λ x. x.log) there ∙ other.1;
          kept = told.right.0;
          answer_is = told.reply_is;
          new_is = ap (λ x. x.log) (seen-is told);
        })

    -- and the seat serves the client still
    pub serves-more : (rules : Rules) → Serves m d s rules client → Answers m d s client message answer t → Serves m d t rules client
    serves-more rules h told = record {
      seat = (ap (λ u. u.table) told.seen ∙ h.seat.0, ap (λ u. u.opening) told.seen ∙ h.seat.1);
      number = ap (λ u. u.number) told.seen ∙ h.number;
      rules_are = h.rules_are;
      log_is = sound-log rules h.rules_are t.seen (subst (IsSound m d.opening.rules) (sym (seen-is told)) told.right_after);
    }

    -- an equal message was answered
    pub same-message : (sent : Message C) → sent ≡ message → Answers m d s client sent answer t → Answers m d s client message answer t
    same-message sent is told = subst (λ x. Answers m d s client x answer t) is told
