-- How all stand where an exchange ended, and what it told.
use Rattle.std.specs.Prelude.{◌≡◌, ◌↔◌, ◌==◌, if◌then◌else◌, ℕ, ◌+◌, ◌-◌, ◌≤◌, Bool, true, false, List, [], ◌∷◌, ◌++◌, length, drop, slice_get, Some, Result, Ok, Err, IfOk, OnErr, refl}
use Rattle.std.proofs.Common.{ap, sym, subst, ◌∙◌, arith, inr, length-append, length-drop}
use Rattle.std.proofs.lemmas.Bool.{eqb-true, eqb-false}
use Rattle.pm_change.specs.Changes.{Meaning, Laws}
use Rattle.pm_authority.specs.declared.authority.Authority.{Authority}
use Rattle.pm_authority.specs.declared.running.Refusal.{Refusal}
use Rattle.pm_authority.specs.declared.message.Message.TheVariants.{Submit as Submission}
use Rattle.pm_authority.specs.declared.message.Answer.{Answer}
use Rattle.pm_authority.specs.declared.message.Answer.TheVariants.{WrongVersion}
use Rattle.pm_authority.specs.Kept.{IsKept}
use Rattle.pm_authority.specs.Presents.{presented, tried}
use Rattle.pm_authority.specs.Runs.{run}
use Rattle.pm_client.specs.declared.client.Client.{Client}
use Rattle.pm_client.specs.declared.taken.MessageKind.{MessageKind}
use Rattle.pm_client.specs.declared.taken.MessageKind.TheVariants.{Submit, Ask}
use Rattle.pm_client.specs.declared.taken.Taken.{Taken}
use Rattle.pm_client.specs.declared.taken.Taken.TheVariants.{Refused}
use Rattle.pm_client.specs.Causes.{IsTaken}
use Rattle.pm_client.specs.Clients.{message_of, composed, answer_at, taken_at}
use Rattle.pm_client.specs.Kins.{Kin}
use Rattle.pm_client.proofs.Answering.{never-refused}
use Rattle.pm_session.proofs.Keeping.{taken-last}
use Rattle.pm_session.proofs.Moves.{Moved, composes-moved, sent-moved, given-moved, takes-moved}
use Rattle.pm_session.proofs.SoundLaws.{new-stands}
use Rattle.pm_session.specs.Hosts.{EndsWith}
use Rattle.pm_engine.specs.Exchanges.{answered, keeper, Exchanged, LeftExchanging, SubmitsOld}

pub on-err : {T E P : Type 0} (r : Result T E) → P → OnErr r P
on-err (Ok x) p = tt
on-err (Err e) p = p

get-last : {A : Type 0} (xs : List A) (x : A) → slice_get (xs ++ x ∷ []) (length xs) ≡ Some x
get-last [] x = refl
get-last (y ∷ xs) x = get-last xs x

-- the authority a and the client c became these, and all stand as they did
pub record Stood {Rules Doc Reason C : Type 0} (m : Meaning Rules Doc Reason C) (rules : Rules) (a : Authority C Rules Doc Reason) (c : Client C Rules Doc Reason)
    (new : Authority C Rules Doc Reason) (next : Client C Rules Doc Reason) : Type 0 where
  pub kept : IsKept m rules new
  pub own : Kin m rules new.first new.log next
  pub other : (d : Client C Rules Doc Reason) → (c.name ≡ d.name → ⊥) → Kin m rules a.first a.log d → Kin m rules new.first new.log d
  pub name : next.name ≡ c.name

module _ {Rules Doc Reason C : Type 0} (m : Meaning Rules Doc Reason C) (rules : Rules) (laws : Laws m) (a : Authority C Rules Doc Reason) (stood : IsKept m rules a)
    (c : Client C Rules Doc Reason) (kin : Kin m rules a.first a.log c) (kind : MessageKind) where
  by-move : (composes gets : Bool) (nw : Authority C Rules Doc Reason) (nx : Client C Rules Doc Reason) → Moved m rules a c composes gets nw nx → Stood m rules a c nw nx
  by-move composes gets nw nx h = record { kept = h.after.authority; own = h.after.own; other = h.after.other; name = h.name }

  module _ (new : Authority C Rules Doc Reason) (next : Client C Rules Doc Reason) where
    -- the message was composed, and no more
    pub composed-stood : new ≡ a → next ≡ composed c kind → Stood m rules a c new next
    composed-stood is to = rw (is, to) (by-move true false a (composed c kind) (composes-moved m rules laws a stood c kin kind))

    -- it was answered too
    pub answered-stood : new ≡ (answered m rules a c kind).1 → next ≡ composed c kind → Stood m rules a c new next
    answered-stood is to = rw (is, to) (by-move true false (answered m rules a c kind).1 (composed c kind) (sent-moved m rules laws a stood c kin kind))

    -- the answer was kept too
    pub kept-stood : new ≡ (answered m rules a c kind).1 → next ≡ keeper m rules a c kind → Stood m rules a c new next
    kept-stood is to = rw (is, to) (by-move true true (answered m rules a c kind).1 (keeper m rules a c kind) (given-moved m rules laws a stood c kin kind))

  -- where the answer is entries, the log ends with them
  answer-ends : EndsWith (answered m rules a c kind).1.log (Some (answered m rules a c kind).0)
  answer-ends = by-kind kind
    where
      within : c.version ≤ length a.log
      within = omega (arith, kin.version_is, ap length kin.log_is, length-append kin.before kin.past)

      by-run : (r : Result Doc (Refusal Reason)) → EndsWith (tried m rules a c.pending r).1.log (Some (tried m rules a c.pending r).0)
      by-run (Ok d) = tt
      by-run (Err f) = tt

      by-test : (t : Bool)
          → EndsWith (if t then tried m rules a c.pending (run m rules a.doc 0 c.pending) else (WrongVersion (length a.log), a)).1.log
          (Some (if t then tried m rules a c.pending (run m rules a.doc 0 c.pending) else (WrongVersion (length a.log), a)).0)
      by-test true = by-run (run m rules a.doc 0 c.pending)
      by-test false = tt

      by-kind : (k : MessageKind) → EndsWith (answered m rules a c k).1.log (Some (answered m rules a c k).0)
      by-kind Submit = by-test (c.version == length a.log)
      by-kind Ask = omega (arith, within, length-drop c.version a.log)

  -- the last answer is the one kept
  at-last : (n : ℕ) → n ≡ length c.answers + 1 → (keeps : Client C Rules Doc Reason) → keeps ≡ keeper m rules a c kind → answer_at keeps n ≡ Some (answered m rules a c kind).0
  at-last n number keeps to =
      let place : n - 1 ≡ length c.answers = omega (arith, number) in
      rw (to, place) (get-last c.answers (answered m rules a c kind).0)

  -- with which the log ends
  pub last-ends : (n : ℕ) → n ≡ length c.answers + 1 → (keeps : Client C Rules Doc Reason) → keeps ≡ keeper m rules a c kind
      → (new : Authority C Rules Doc Reason) → new ≡ (answered m rules a c kind).1 → EndsWith new.log (answer_at keeps n)
  last-ends n number keeps to new is =
      let at : answer_at keeps n ≡ Some (answered m rules a c kind).0 = at-last n number keeps to in
      subst (λ o. EndsWith new.log o) (sym at)
      (subst (λ (x : Authority C Rules Doc Reason). EndsWith x.log (Some (answered m rules a c kind).0)) (sym is) answer-ends)

  module _ {E : Type 0} (n : ℕ) (number : n ≡ length c.answers + 1) (new : Authority C Rules Doc Reason) (is : new ≡ (answered m rules a c kind).1)
      (keeps : Client C Rules Doc Reason) (to : keeps ≡ keeper m rules a c kind) (next : Client C Rules Doc Reason) where
    -- it was to be taken
    pub taken-stood : (r : Result Taken E) → IfOk r (λ t. (t, next) ≡ taken_at m rules keeps n) → OnErr r (next ≡ keeps) → Stood m rules a c new next
    taken-stood (Err e) took as_was = kept-stood new next is (as_was ∙ to)
    taken-stood (Ok t) took as_was =
        let one = given-moved m rules laws a stood c kin kind in
        let two = takes-moved m rules laws (answered m rules a c kind).1 one.after.authority (keeper m rules a c kind) one.after.own n in
        let end : next ≡ (taken_at m rules (keeper m rules a c kind) n).1 = ap (λ p. p.1) took ∙ ap (λ k. (taken_at m rules k n).1) to in
        rw (is, end) record { kept = two.after.authority; own = two.after.own; other = one.after.other; name = two.name ∙ one.name }

    pub taken-left : (r : Result Taken E) → OnErr r (next ≡ keeps) → OnErr r (LeftExchanging m rules a c kind new next)
    taken-left (Ok t) as_was = tt
    taken-left (Err e) as_was = inr (inr (inr (is, as_was ∙ to)))

    pub taken-exchanged : (r : Result Taken E) → IfOk r (λ t. (t, next) ≡ taken_at m rules keeps n) → IfOk r (λ t. Exchanged m rules a c kind t new next)
    taken-exchanged (Err e) took = tt
    taken-exchanged (Ok t) took = record {
      answers = is;
      takes = took ∙ (ap (λ k. taken_at m rules k n) to ∙ taken-last m rules (composed c kind) (answered m rules a c kind).0 n number);
    }

    pub taken-causes : (r : Result Taken E)
        → ((x : Answer C Rules Doc Reason) (t : Taken) → answer_at keeps n ≡ Some x → IfOk r (λ told. (told ≡ t) ↔ IsTaken m rules keeps x t))
        → (t : Taken) → IfOk r (λ told. (told ≡ t) ↔ IsTaken m rules (keeper m rules a c kind) (answered m rules a c kind).0 t)
    taken-causes r causes t =
        subst (λ k. IfOk r (λ told. (told ≡ t) ↔ IsTaken m rules k (answered m rules a c kind).0 t)) to (causes (answered m rules a c kind).0 t (at-last n number keeps to))

  -- an answer refuses a submission at an old version, and no other message
  refuses : (k : Client C Rules Doc Reason) (kd : MessageKind) → IsTaken m rules k (presented m rules a (message_of c kd)).0 Refused ↔ SubmitsOld a c kd
  refuses k Ask = (λ x. absurd x, λ s. let e : Ask ≡ Submit = s.0 in absurd (cc))
  refuses k Submit = by-test (c.version == length a.log) refl
    where
      by-run : (c.version == length a.log) ≡ true → (r : Result Doc (Refusal Reason)) → run m rules a.doc 0 c.pending ≡ r
          → IsTaken m rules k (tried m rules a c.pending r).0 Refused ↔ SubmitsOld a c Submit
      by-run was (Ok d) ran = (λ x. absurd x, λ s. absurd (s.1 (eqb-true c.version (length a.log) was)))
      by-run was (Err f) ran =
          absurd (never-refused m rules laws a c stood kin (Submission c.version c.pending) (new-stands m rules laws c Submit) f.index f.reason (rw (was, ran) refl))

      by-test : (t : Bool) → (c.version == length a.log) ≡ t
          → IsTaken m rules k (if t then tried m rules a c.pending (run m rules a.doc 0 c.pending) else (WrongVersion (length a.log), a)).0 Refused ↔ SubmitsOld a c Submit
      by-test true was = by-run was (run m rules a.doc 0 c.pending) refl
      by-test false was = (λ x. (refl, eqb-false c.version (length a.log) was), λ s. refl)

  pub refused : {E : Type 0} (r : Result Taken E) → ((t : Taken) → IfOk r (λ told. (told ≡ t) ↔ IsTaken m rules (keeper m rules a c kind) (answered m rules a c kind).0 t))
      → IfOk r (λ told. (told ≡ Refused) ↔ SubmitsOld a c kind)
  refused (Err e) causes = tt
  refused (Ok told) causes =
      let h = causes Refused in
      let k = refuses (keeper m rules a c kind) kind in
      (λ e. k.0 (h.0 e), λ s. h.1 (k.1 s))
