-- Taking an answer tells each thing exactly where its cause holds.
use Rattle.std.proofs.Common.{◌≡◌, ◌↔◌, ℕ, ◌+◌, ◌-◌, ◌<◌, ◌≤◌, ◌⊎◌, ◌==◌, if◌then◌else◌, Bool, true, false, List, ◌++◌, length, take, drop, Some, refl, sym, ap, ◌∙◌, subst, inl, inr, arith, length-append}
use Rattle.std.specs.Prelude.{nat_le, Result, Ok, Err, IfOk}
use Rattle.std.proofs.Math.Seq.{drop-append_seam}
use Rattle.std.proofs.lemmas.Bool.{eqb-true, eqb-false, leb-true, leb-false}
use Rattle.std.proofs.lemmas.List.{take-append-drop, length-take-le}
use Rattle.pm_change.specs.Changes.{Meaning, Laws, fold}
use Rattle.pm_authority.specs.declared.named.Named.{Named}
use Rattle.pm_authority.specs.declared.message.Answer.{Answer}
use Rattle.pm_authority.specs.declared.message.Answer.TheVariants.{Accepted, WrongVersion, StepRefused, Entries}
use Rattle.pm_authority.specs.Runs.{changes_of, AllApply}
use Rattle.pm_client.specs.declared.client.Client.{Client}
use Rattle.pm_client.specs.declared.taken.Taken.{Taken}
use Rattle.pm_client.specs.declared.taken.Taken.TheVariants.{Confirmed, Rebased, Stale, Refused}
use Rattle.pm_client.specs.Clients.{own_run, given, confirmed, brought, carried, confirmed_first, others_taken, rest_taken, taken, taken_if, taken_at, answer_at}
use Rattle.pm_client.specs.Kins.{IsOwn, IsForeign, AnswerStands, Kin, Stands}
use Rattle.pm_client.proofs.Lists.{Each-front}
use Rattle.pm_client.proofs.Takings.{own_run-is, rest-of}
use Rattle.pm_client.specs.Causes.{PastVersion, AreLost, IsTaken}
use Rattle.pm_client.proofs.Advances.{first-apply, rest-applies}
use Rattle.pm_client.proofs.Plannings.{meets-found}

module _ {Rules Doc Reason C : Type 0} (c : Client C Rules Doc Reason) (since : ℕ) (entries : List (Named C)) where
  -- what is past the version is own steps and then others'
  past-rest : (p : PastVersion c since entries) → drop (c.version - since) entries ≡ p.own ++ p.foreign
  past-rest p =
      let at : c.version - since ≡ length p.passed = omega (arith, p.passed_is) in
      rw (at, p.entries_are) (drop-append_seam p.passed (p.own ++ p.foreign))

  past-own : (p : PastVersion c since entries) → length p.own ≡ own_run c.name (drop (c.version - since) entries)
  past-own p = sym (ap (own_run c.name) (past-rest p) ∙ own_run-is c.name p.own p.foreign p.are_own p.are_foreign)

  past-foreign : (p : PastVersion c since entries)
      → p.foreign ≡ drop (own_run c.name (drop (c.version - since) entries)) (drop (c.version - since) entries)
  past-foreign p =
      sym (ap (λ k. drop k (drop (c.version - since) entries)) (sym (past-own p)) ∙ ap (drop (length p.own)) (past-rest p) ∙ drop-append_seam p.own p.foreign)

  past-long : (p : PastVersion c since entries) → since + length entries ≡ c.version + (length p.own + length p.foreign)
  past-long p =
      omega (arith, p.passed_is, ap length p.entries_are, length-append p.passed (p.own ++ p.foreign), length-append p.own p.foreign)

  same-own : (p q : PastVersion c since entries) → length p.own ≡ length q.own
  same-own p q = past-own p ∙ sym (past-own q)

  same-foreign : (p q : PastVersion c since entries) → p.foreign ≡ q.foreign
  same-foreign p q = past-foreign p ∙ sym (past-foreign q)

  same-rest : (p q : PastVersion c since entries) → p.own ++ p.foreign ≡ q.own ++ q.foreign
  same-rest p q = sym (past-rest p) ∙ past-rest q

module _ {Rules Doc Reason C : Type 0} (m : Meaning Rules Doc Reason C) (rules : Rules) (c : Client C Rules Doc Reason) where
  lost-once : (own own2 foreign foreign2 : List (Named C)) (j k : ℕ) → length own ≡ length own2 → foreign ≡ foreign2 → own ++ foreign ≡ own2 ++ foreign2
      → AreLost m rules c own foreign j → AreLost m rules c own2 foreign2 k → j ≡ k
  lost-once own own2 foreign foreign2 j k o f r (b, applies, is) (d, applies2, is2) =
      let there : fold m rules c.base (changes_of (own ++ foreign)) ≡ Some d = ap (λ l. fold m rules c.base (changes_of l)) r ∙ applies2 in
      let same : b ≡ d = cc in
      is ∙ ap (λ x. length (carried m rules c x foreign b).dropped) o ∙ ap (λ l. length (carried m rules c (length own2) l b).dropped) f
      ∙ ap (λ x. length (carried m rules c (length own2) foreign2 x).dropped) same ∙ sym is2

  -- an answer has one cause
  accepted-once : (from count : ℕ) (t u : Taken) → IsTaken m rules c (Accepted from count) t → IsTaken m rules c (Accepted from count) u → t ≡ u
  accepted-once from count Stale Stale h k = refl
  accepted-once from count Stale (Confirmed y) h k = absurd (omega (arith, h, k.0))
  accepted-once from count Stale (Rebased a b d) h k = absurd k
  accepted-once from count Stale Refused h k = absurd k
  accepted-once from count (Confirmed x) Stale h k = absurd (omega (arith, k, h.0))
  accepted-once from count (Confirmed x) (Confirmed y) h k = ap Confirmed (h.1 ∙ sym k.1)
  accepted-once from count (Confirmed x) (Rebased a b d) h k = absurd k
  accepted-once from count (Confirmed x) Refused h k = absurd k
  accepted-once from count (Rebased a b d) u h k = absurd h
  accepted-once from count Refused u h k = absurd h

  entries-once : (since : ℕ) (entries : List (Named C)) (t u : Taken) → IsTaken m rules c (Entries since entries) t
      → IsTaken m rules c (Entries since entries) u → t ≡ u
  entries-once since entries Stale Stale h k = refl
  entries-once since entries Stale (Confirmed y) h (q, some, none, is) = absurd (omega (arith, h, some, past-long c since entries q))
  entries-once since entries Stale (Rebased a b d) h (q, some, own, foreign, lost) = absurd (omega (arith, h, some, past-long c since entries q))
  entries-once since entries Stale Refused h k = absurd k
  entries-once since entries (Confirmed x) Stale (p, some, none, is) k = absurd (omega (arith, k, some, past-long c since entries p))
  entries-once since entries (Confirmed x) (Confirmed y) (p, some, none, is) (q, some2, none2, is2) =
      ap Confirmed (is ∙ same-own c since entries p q ∙ sym is2)
  entries-once since entries (Confirmed x) (Rebased a b d) (p, some, none, is) (q, some2, own, foreign, lost) =
      absurd (omega (arith, none, some2, ap length (same-foreign c since entries p q)))
  entries-once since entries (Confirmed x) Refused h k = absurd k
  entries-once since entries (Rebased a b d) Stale (p, some, own, foreign, lost) k = absurd (omega (arith, k, some, past-long c since entries p))
  entries-once since entries (Rebased a b d) (Confirmed y) (p, some, own, foreign, lost) (q, some2, none, is) =
      absurd (omega (arith, none, some, ap length (same-foreign c since entries p q)))
  entries-once since entries (Rebased a b d) (Rebased x y z) (p, some, own, foreign, lost) (q, some2, own2, foreign2, lost2) =
      let o : length p.own ≡ length q.own = same-own c since entries p q in
      let f : p.foreign ≡ q.foreign = same-foreign c since entries p q in
      let e1 : a ≡ x = own ∙ o ∙ sym own2 in
      let e2 : b ≡ y = foreign ∙ ap length f ∙ sym foreign2 in
      let e3 : d ≡ z = lost-once p.own q.own p.foreign q.foreign d z o f (same-rest c since entries p q) lost lost2 in
      cc (e1, e2, e3)
  entries-once since entries (Rebased a b d) Refused h k = absurd k
  entries-once since entries Refused u h k = absurd h

  taken-once : (a : Answer C Rules Doc Reason) (t u : Taken) → IsTaken m rules c a t → IsTaken m rules c a u → t ≡ u
  taken-once (Accepted from count) t u h k = accepted-once from count t u h k
  taken-once (WrongVersion size) t u h k = h ∙ sym k
  taken-once (StepRefused index reason) t u h k = h ∙ sym k
  taken-once (Entries since entries) t u h k = entries-once since entries t u h k

  -- what is confirmed is told, since the pending steps apply to the base
  confirmed-told : (k : ℕ) → (end : Doc) × AllApply m rules c.base (take k c.pending) end → (confirmed_first m rules c k).0 ≡ Confirmed k
  confirmed-told k (end, h) = ap (λ o. (given c o (λ base. (Confirmed k, confirmed c k base))).0) h

  -- a client that stands to a log, with an answer that stands
  module _ (first : Doc) (log : List (Named C)) (kin : Kin m rules first log c) where
    accepted-right : (from count : ℕ) → IsTaken m rules c (Accepted from count) (taken m rules c (Accepted from count)).0
    accepted-right from count = by-test (nat_le (from + count) c.version) refl
      where
        by-test : (b : Bool) → nat_le (from + count) c.version ≡ b
            → IsTaken m rules c (Accepted from count) (if b then (Stale, c) else confirmed_first m rules c count).0
        by-test true e = leb-true (from + count) c.version e
        by-test false e =
            subst (IsTaken m rules c (Accepted from count)) (sym (confirmed-told count (first-apply m rules c count kin.doc_is)))
            (leb-false (from + count) c.version e, refl)

    entries-right : (since : ℕ) (entries : List (Named C)) → AnswerStands {Rules = Rules} {Doc = Doc} {Reason = Reason} {C = C} log c.version kin.standing (Entries since entries)
        → IsTaken m rules c (Entries since entries) (taken m rules c (Entries since entries)).0
    entries-right since entries stood = by-test (nat_le (since + length entries) c.version) refl
      where
        rest : List (Named C)
        rest = drop (c.version - since) entries

        own : ℕ
        own = own_run c.name rest

        parts : c.version < since + length entries → PastVersion c since entries
        parts past =
            let s = kin.stands in
            let r = rest-of m rules first log c kin since entries stood past in
            record {
              passed = take (c.version - since) entries;
              own = s.standing;
              foreign = r.front;
              passed_is = omega (arith, stood.0, length-take-le (c.version - since) entries (omega (arith, past)));
              entries_are = sym (ap (λ l. take (c.version - since) entries ++ l) (sym r.rest_is) ∙ take-append-drop (c.version - since) entries);
              are_own = Each-front (IsOwn c.name) s.standing s.later (rw s.pending_is at kin.own);
              are_foreign = Each-front (IsForeign c.name) r.front r.after (rw r.foreign_is at s.are_foreign);
            }

        by-own : c.version < since + length entries → (b : Bool) → (own == length rest) ≡ b
            → IsTaken m rules c (Entries since entries) (if b then confirmed_first m rules c own else others_taken m rules c rest own).0
        by-own past true e =
            let p = parts past in
            let all : own ≡ length rest = eqb-true own (length rest) e in
            let is : own ≡ length p.own = sym (past-own c since entries p) in
            let parted : length rest ≡ length p.own + length p.foreign = ap length (past-rest c since entries p) ∙ length-append p.own p.foreign in
            let long = past-long c since entries p in
            let none : length p.foreign ≡ 0 = omega (arith, all, is, parted) in
            subst (IsTaken m rules c (Entries since entries)) (sym (confirmed-told own (first-apply m rules c own kin.doc_is)))
            (p, omega (arith, past, long, none), none, is)
        by-own past false e =
            let p = parts past in
            let reached = rest-applies m rules c first log kin since entries stood past in
            let base : Doc = reached.0 in
            let other : own ≡ length rest → ⊥ = eqb-false own (length rest) e in
            let is : own ≡ length p.own = sym (past-own c since entries p) in
            let parted : length rest ≡ length p.own + length p.foreign = ap length (past-rest c since entries p) ∙ length-append p.own p.foreign in
            let told : (others_taken m rules c rest own).0 ≡ Rebased own (length rest - own) (length (carried m rules c own (drop own rest) base).dropped) =
            ap (λ o. (given c o (λ base. (Rebased own (length rest - own) (length (carried m rules c own (drop own rest) base).dropped), brought m rules c own (drop own rest) base (carried m rules c own (drop own rest) base)))).0) reached.1 in
            let applies : AllApply m rules c.base (p.own ++ p.foreign) base = ap (λ l. fold m rules c.base (changes_of l)) (sym (past-rest c since entries p)) ∙ reached.1 in
            let lost : length (carried m rules c own (drop own rest) base).dropped ≡ length (carried m rules c (length p.own) p.foreign base).dropped =
            ap (λ l. length (carried m rules c own l base).dropped) (sym (past-foreign c since entries p)) ∙ ap (λ k. length (carried m rules c k p.foreign base).dropped) is in
            subst (IsTaken m rules c (Entries since entries)) (sym told)
            (p, omega (arith, other, is, parted), is, omega (arith, is, parted), (base, applies, lost))

        by-test : (b : Bool) → nat_le (since + length entries) c.version ≡ b
            → IsTaken m rules c (Entries since entries) (if b then (Stale, c) else rest_taken m rules c rest own).0
        by-test true e = leb-true (since + length entries) c.version e
        by-test false e = by-own (leb-false (since + length entries) c.version e) (own == length rest) refl

    -- what is told has its cause
    pub taken-right : (a : Answer C Rules Doc Reason) → AnswerStands log c.version kin.standing a → IsTaken m rules c a (taken m rules c a).0
    taken-right (Accepted from count) stood = accepted-right from count
    taken-right (WrongVersion size) stood = refl
    taken-right (StepRefused index reason) stood = refl
    taken-right (Entries since entries) stood = entries-right since entries stood

  -- what is told comes exactly where its cause holds
  pub take-causes : {E : Type 0} → Laws m → (r : Result Taken E) (next : Client C Rules Doc Reason) (i : ℕ) → Stands m rules c
      → IfOk r (λ t. (t, next) ≡ taken_at m rules c i) → (a : Answer C Rules Doc Reason) (x : Taken) → answer_at c i ≡ Some a
      → IfOk r (λ t. (t ≡ x) ↔ IsTaken m rules c a x)
  take-causes laws (Ok t) next i stands takes a x found =
      let told : t ≡ (taken m rules c a).0 = ap (λ y. y.0) takes ∙ ap (λ o. (taken_if m rules c o).0) found in
      let meets = meets-found m rules c i a stands found in
      let right : IsTaken m rules c a t = subst (IsTaken m rules c a) (sym told) (taken-right meets.first meets.log meets.kin a meets.stands) in
      (λ same. subst (IsTaken m rules c a) same right, λ cause. taken-once a t x right cause)
  take-causes laws (Err e) next i stands takes a x found = tt
