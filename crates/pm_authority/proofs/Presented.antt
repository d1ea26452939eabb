-- The answer that the definition gives is the one whose cause holds.
use Rattle.std.specs.Prelude.{◌≡◌, ◌≢◌, ◌↔◌, ◌==◌, ℕ, ◌+◌, ◌⊎◌, Bool, true, false, if◌then◌else◌, zero, suc, List, [], ◌∷◌, length, take, drop, Result, Ok, Err, IfOk, OnOk, refl}
use Rattle.std.specs.declared.alloc.AllocError.{AllocError}
use Rattle.std.proofs.Common.{ap, sym, subst, ◌∙◌, inl, inr, arith}
use Rattle.std.proofs.lemmas.Bool.{eq-eqb, eqb-true}
use Rattle.pm_change.specs.Changes.{Meaning}
use Rattle.pm_change.proofs.Folds.{fold-cons}
use Rattle.pm_authority.specs.declared.named.Named.{Named}
use Rattle.pm_authority.specs.declared.running.Refusal.{Refusal}
use Rattle.pm_authority.specs.declared.message.Message.{Message}
use Rattle.pm_authority.specs.declared.message.Message.TheVariants.{Submit, Ask}
use Rattle.pm_authority.specs.declared.message.Answer.{Answer}
use Rattle.pm_authority.specs.declared.message.Answer.TheVariants.{Accepted, WrongVersion, StepRefused, Entries}
use Rattle.pm_authority.specs.declared.authority.Authority.{Authority}
use Rattle.pm_authority.specs.Runs.{run, then_run, changes_of, StopsAt}
use Rattle.pm_authority.proofs.RunFolds.{run-fold, fold-run}
use Rattle.pm_authority.specs.Presents.{tried, submitted, presented}
use Rattle.pm_authority.specs.Causes.{IsAnswer, IsNext}

module _ {Rules Doc Reason C : Type 0} (m : Meaning Rules Doc Reason C) (rules : Rules) where
  -- a run that is refused is so at its first step or after it
  abbrev Refused : Doc → ℕ → Named C → List (Named C) → Refusal Reason → Type 0
  Refused doc i n ns e =
      ((m.outcome rules n.change doc ≡ Err e.reason) × (e.index ≡ i))
      ⊎ ((next : Doc) × ((m.outcome rules n.change doc ≡ Ok next) × (run m rules next (i + 1) ns ≡ Err e)))

  refused-cons : (doc : Doc) (i : ℕ) (n : Named C) (ns : List (Named C)) (e : Refusal Reason)
      → run m rules doc i (n ∷ ns) ≡ Err e → Refused doc i n ns e
  refused-cons doc i n ns e h = from (m.outcome rules n.change doc) refl h
    where
      from : (r : Result Doc Reason) → m.outcome rules n.change doc ≡ r
          → then_run m rules r i (λ d. run m rules d (i + 1) ns) ≡ Err e → Refused doc i n ns e
      from (Ok next) was h = inr (next, (was, h))
      from (Err r) was h =
          let same : record { index = i; reason = r } ≡ e = cc in
          inl (was ∙ ap (λ x. Err (x.reason)) same, sym (ap (λ x. x.index) same))

  abbrev Stopped : Doc → ℕ → List (Named C) → Refusal Reason → Type 0
  Stopped doc i ns e = (k : ℕ) × ((e.index ≡ i + k) × StopsAt m rules doc ns k e.reason)

  -- a run that is refused stops at the first step that does not apply
  run-stopped : (doc : Doc) (i : ℕ) (ns : List (Named C)) (e : Refusal Reason) → run m rules doc i ns ≡ Err e → Stopped doc i ns e
  run-stopped doc i [] e h = absurd (cc)
  run-stopped doc i (n ∷ ns) e h = from (λ next was. run-stopped next (i + 1) ns e was) (refused-cons doc i n ns e h)
    where
      from : ((next : Doc) → run m rules next (i + 1) ns ≡ Err e → Stopped next (i + 1) ns e) → Refused doc i n ns e → Stopped doc i (n ∷ ns) e
      from later (inl here) =
          (0, (omega (arith, here.1), record { step = n; reached = doc; placed = refl; before = refl; refused = here.0 }))
      from later (inr on) =
          let s = later on.0 on.1.1 in
          let at : e.index ≡ i + 1 + s.0 = s.1.0 in (
            suc s.0,
            (
              omega (arith, at),
              record {
                step = s.1.1.step;
                reached = s.1.1.reached;
                placed = s.1.1.placed;
                before = rw on.1.0 s.1.1.before;
                refused = s.1.1.refused;
              },
            ),
          )

  -- a run is refused at the first step that does not apply
  stopped-run : (doc : Doc) (i : ℕ) (ns : List (Named C)) (k : ℕ) (reason : Reason) → StopsAt m rules doc ns k reason
      → run m rules doc i ns ≡ Err (record { index = i + k; reason = reason })
  stopped-run doc i [] k reason s = absurd (let none = s.placed in cc)
  stopped-run doc i (n ∷ ns) zero reason s =
      let step : n ≡ s.step = let p = s.placed in cc in
      let there : doc ≡ s.reached = let p = s.before in cc in
      let fails : m.outcome rules n.change doc ≡ Err reason = rw (step, there) s.refused in
      let at : i ≡ i + 0 = omega arith in
      rw fails (ap (λ x. Err (record { index = x; reason = reason })) at)
  stopped-run doc i (n ∷ ns) (suc k) reason s =
      let f = fold-cons m rules doc s.reached n.change (changes_of (take k ns)) s.before in
      let on = stopped-run f.0 (i + 1) ns k reason record {
        step = s.step;
        reached = s.reached;
        placed = s.placed;
        before = f.2;
        refused = s.refused;
      } in
      let at : i + 1 + k ≡ i + suc k = omega arith in
      rw f.1 (on ∙ ap (λ x. Err (record { index = x; reason = reason })) at)

  tried-answer : (a : Authority C Rules Doc Reason) (version : ℕ) (steps : List (Named C)) → version ≡ length a.log
      → (r : Result Doc (Refusal Reason)) → run m rules a.doc 0 steps ≡ r
      → IsAnswer m rules a (Submit version steps) (tried m rules a steps r).0
  tried-answer a version steps same (Ok d) ran = (same, ((d, run-fold m rules a.doc d 0 steps ran), (refl, refl)))
  tried-answer a version steps same (Err e) ran =
      let s = run-stopped a.doc 0 steps e ran in
      let at : s.0 ≡ e.index = (let i = s.1.0 in omega (arith, i)) in
      (same, subst (λ i. StopsAt m rules a.doc steps i e.reason) at s.1.1)

  tried-next : (a : Authority C Rules Doc Reason) (version : ℕ) (steps : List (Named C))
      → (r : Result Doc (Refusal Reason)) → run m rules a.doc 0 steps ≡ r
      → IsNext m rules a (Submit version steps) (tried m rules a steps r).0 (tried m rules a steps r).1
  tried-next a version steps (Ok d) ran = (refl, (run-fold m rules a.doc d 0 steps ran, refl))
  tried-next a version steps (Err e) ran = refl

  -- the answer that the definition gives has its cause
  answer-right : (a : Authority C Rules Doc Reason) (message : Message C) → IsAnswer m rules a message (presented m rules a message).0
  answer-right a (Submit version steps) = from (version == length a.log) refl
    where
      from : (b : Bool) → (version == length a.log) ≡ b → IsAnswer m rules a (Submit version steps)
          (if b then tried m rules a steps (run m rules a.doc 0 steps) else (WrongVersion (length a.log), a)).0
      from true e = tried-answer a version steps (eqb-true version (length a.log) e) (run m rules a.doc 0 steps) refl
      from false e = (λ same. absurd (let t = eq-eqb version (length a.log) same in cc), refl)
  answer-right a (Ask version) = (refl, refl)

  -- the authority that the definition gives is what the answer leaves
  next-right : (a : Authority C Rules Doc Reason) (message : Message C)
      → IsNext m rules a message (presented m rules a message).0 (presented m rules a message).1
  next-right a (Submit version steps) = from (version == length a.log)
    where
      chosen : Bool → Answer C Rules Doc Reason × Authority C Rules Doc Reason
      chosen b = if b then tried m rules a steps (run m rules a.doc 0 steps) else (WrongVersion (length a.log), a)

      from : (b : Bool) → IsNext m rules a (Submit version steps) (chosen b).0 (chosen b).1
      from true = tried-next a version steps (run m rules a.doc 0 steps) refl
      from false = refl
  next-right a (Ask version) = refl

  current : (a : Authority C Rules Doc Reason) (version : ℕ) (steps : List (Named C)) → version ≡ length a.log
      → submitted m rules a version steps ≡ tried m rules a steps (run m rules a.doc 0 steps)
  current a version steps same = rw (eq-eqb version (length a.log) same) refl

  late : (a : Authority C Rules Doc Reason) (version : ℕ) (steps : List (Named C)) → version ≢ length a.log
      → submitted m rules a version steps ≡ (WrongVersion (length a.log), a)
  late a version steps other = from (version == length a.log) refl
    where
      from : (b : Bool) → (version == length a.log) ≡ b
          → (if b then tried m rules a steps (run m rules a.doc 0 steps) else (WrongVersion (length a.log), a)) ≡ (WrongVersion (length a.log), a)
      from true e = absurd (other (eqb-true version (length a.log) e))
      from false e = refl

  -- an answer that has its cause is the one that the definition gives
  answer-only : (a : Authority C Rules Doc Reason) (message : Message C) (x : Answer C Rules Doc Reason)
      → IsAnswer m rules a message x → (presented m rules a message).0 ≡ x
  answer-only a (Submit version steps) (Accepted from count) h =
      let ran = fold-run m rules a.doc h.1.0.0 0 steps h.1.0.1 in
      let is : (submitted m rules a version steps).0 ≡ Accepted (length a.log) (length steps) =
      ap (λ x. x.0) (current a version steps h.0) ∙ rw ran refl in
      is ∙ ap (λ n. Accepted n (length steps)) (sym h.1.1.0) ∙ ap (λ n. Accepted from n) (sym h.1.1.1)
  answer-only a (Submit version steps) (WrongVersion size) h =
      ap (λ x. x.0) (late a version steps h.0) ∙ ap WrongVersion (sym h.1)
  answer-only a (Submit version steps) (StepRefused index reason) h =
      let ran = stopped-run a.doc 0 steps index reason h.1 in
      let at : 0 + index ≡ index = omega arith in
      ap (λ x. x.0) (current a version steps h.0) ∙ rw ran (ap (λ n. StepRefused n reason) at)
  answer-only a (Submit version steps) (Entries since entries) h = absurd h
  answer-only a (Ask version) (Entries since entries) h = ap (λ n. Entries n (drop version a.log)) (sym h.0) ∙ ap (λ l. Entries since l) (sym h.1)
  answer-only a (Ask version) (Accepted from count) h = absurd h
  answer-only a (Ask version) (WrongVersion size) h = absurd h
  answer-only a (Ask version) (StepRefused index reason) h = absurd h

  -- each answer comes exactly where its cause holds
  pub present-causes : (r : Result (Answer C Rules Doc Reason) AllocError) (a : Authority C Rules Doc Reason) (message : Message C)
      → IfOk r (λ y. y ≡ (presented m rules a message).0) → (x : Answer C Rules Doc Reason)
      → IfOk r (λ y. (y ≡ x) ↔ IsAnswer m rules a message x)
  present-causes (Ok y) a message h x =
      (λ same. subst (IsAnswer m rules a message) (sym h ∙ same) (answer-right a message), λ cause. h ∙ answer-only a message x cause)
  present-causes (Err e) a message h x = tt

  -- each answer leaves what it says
  pub present-next : (r : Result (Answer C Rules Doc Reason) AllocError) (a next : Authority C Rules Doc Reason) (message : Message C)
      → IfOk r (λ y. y ≡ (presented m rules a message).0) → OnOk r (next ≡ (presented m rules a message).1)
      → IfOk r (λ y. IsNext m rules a message y next)
  present-next (Ok y) a next message h same = rw (h, same) (next-right a message)
  present-next (Err e) a next message h same = tt
