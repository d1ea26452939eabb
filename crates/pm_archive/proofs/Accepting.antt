-- When a submission is accepted, and that a fault changes nothing.
use Rattle.std.proofs.Common.{◌≡◌, ◌∙◌, ◌+◌, ℕ, suc, Bool, true, false, List, [], ◌∷◌, length, get_or, refl, ap, sym, arith, Result, Ok, Err}
use Rattle.std.specs.Prelude.{Option, None, Some, nat_lt, ◌==◌, if◌then◌else◌}
use Rattle.std.proofs.lemmas.Bool.Decides.{nat_tests}
use Rattle.serde_json.specs.Data.{Data}
use Rattle.pm_tokens.specs.Tokens.{Doc as Document}
use Rattle.pm_schema.specs.declared.spec.SchemaSpec.{SchemaSpec}
use Rattle.pm_meaning.specs.Steps.{Step}
use Rattle.pm_meaning.specs.declared.reason.Reason.{Reason}
use Rattle.pm_change.specs.declared.no_step.NoStep.{NoStep}
use Rattle.pm_apply.specs.Changes.{meaning}
use Rattle.pm_head.specs.declared.code.Code.{Code}
use Rattle.pm_head.specs.declared.code.Code.TheVariants.{BadClients}
use Rattle.pm_authority.specs.declared.named.Named.{Named}
use Rattle.pm_authority.specs.declared.running.Refusal.{Refusal}
use Rattle.pm_authority.specs.declared.message.Answer.TheVariants.{Accepted, WrongVersion, StepRefused, Entries}
use Rattle.pm_authority.specs.Runs.{run, AllApply}
use Rattle.pm_authority.specs.Presents.{tried}
use Rattle.pm_authority.proofs.RunFolds.{run-fold, fold-run}
use Rattle.pm_talk.specs.Ids.{number_of, has_room, with_id}
use Rattle.pm_talk.specs.Texts.{fault_text, accepted_text, version_text, refused_words, fault_place, reason_number}
use Rattle.pm_talk.specs.Live.{LiveAnswer, named, is_accepted}
use Rattle.pm_order.specs.declared.word.DocWord.{DocWord}
use Rattle.pm_order.specs.declared.word.DocWord.TheVariants as word
use Rattle.pm_order.specs.declared.wish.Wish.{Wish}
use Rattle.pm_order.specs.declared.wish.Wish.TheVariants.{Submit, Since, Doc, Forget, Map, Revert, Edit, Authors}
use Rattle.pm_order.specs.Wishes.{wish_in}
use Rattle.pm_edit.specs.Ops.{steps_of}
use Rattle.pm_archive.specs.declared.archive.Archive.{Archive}
use Rattle.pm_archive.specs.declared.reverting.TheConstants.{MAX_VERSION}
use Rattle.pm_archive.specs.Archives.{authority_of, version_of, with_authority}
use Rattle.pm_archive.specs.Texts.{from_text, reverted_text, edited_text}
use Rattle.pm_archive.specs.Answers.{presented_at, answer_text, told, submitted, forgotten, is_apart, reverted, edited, answer, answered}
use Rattle.pm_archive.specs.Laws.{IsAccepted, AcceptsExactly, FaultsChangeNothing}
use Rattle.pm_archive.proofs.Forgotten.{by_tests}
use Rattle.pm_archive.proofs.Reverted.{each-answer}
use Rattle.pm_archive.proofs.Edited.{by_last}
use Rattle.pm_archive.proofs.Names.{Given, chosen}

length-named : (client serial : ℕ) (steps : List Step) → length (named client serial steps) ≡ length steps
length-named client serial [] = refl
length-named client serial (step ∷ steps) = ap suc (length-named client (serial + 1) steps)

-- ---- the texts begin otherwise

pub v-is-not-a : ◌≡◌ {A = ℕ} 118 97 → ⊥
v-is-not-a e = omega (arith, e)

pub r-is-not-a : ◌≡◌ {A = ℕ} 114 97 → ⊥
r-is-not-a e = omega (arith, e)

pub f-is-not-a : ◌≡◌ {A = ℕ} 102 97 → ⊥
f-is-not-a e = omega (arith, e)

version-differs : (n from count : ℕ) → version_text n ≡ accepted_text from count → ⊥
version-differs n from count h = v-is-not-a (ap (λ xs. get_or xs 2 0) h)

refused-differs : (at : Option ℕ) (index number from count : ℕ) → refused_words at index number ≡ accepted_text from count → ⊥
refused-differs None index number from count h = r-is-not-a (ap (λ xs. get_or xs 2 0) h)
refused-differs (Some at) index number from count h = r-is-not-a (ap (λ xs. get_or xs 2 0) h)

fault-differs : (code : Code) (from count : ℕ) → fault_text code ≡ accepted_text from count → ⊥
fault-differs code from count h = f-is-not-a (ap (λ xs. get_or xs 2 0) h)

no-room-is-room : (b : Bool) → b ≡ false → b ≡ true → ⊥
no-room-is-room b f t = absurd (cc)

-- ---- steps that are presented

equal-tests : (a b : ℕ) → (a == b) ≡ true → a ≡ b
equal-tests a b h = grind (arith, nat_tests)

pub tests-equal : (a b : ℕ) → a ≡ b → (a == b) ≡ true
tests-equal a b h = grind (arith, nat_tests)

abbrev Applies : Archive → ℕ → List (Named Step) → Type 0
Applies a version steps = (version ≡ version_of a) × ((end : Document) × AllApply meaning a.schema a.doc steps end)

-- the text that says so has its cause
accepted-applies : (a : Archive) (version : ℕ) (steps : List (Named Step)) (from count : ℕ)
    → answer_text a.from (presented_at a version steps).0 ≡ accepted_text from count → Applies a version steps
accepted-applies a version steps from count t = by (version == version_of a) refl t
  where
    ran : version ≡ version_of a → (r : Result Document (Refusal Reason)) → run meaning a.schema a.doc 0 steps ≡ r
        → answer_text a.from (tried meaning a.schema (authority_of a) steps r).0 ≡ accepted_text from count → Applies a version steps
    ran same (Ok d) e t = (same, (d, run-fold meaning a.schema a.doc d 0 steps e))
    ran same (Err x) e t = absurd (refused-differs (fault_place x.reason) x.index (reason_number x.reason) from count t)

    by : (b : Bool) → (version == version_of a) ≡ b → answer_text a.from (chosen a steps b).0 ≡ accepted_text from count → Applies a version steps
    by true e t = ran (equal-tests version (version_of a) e) (run meaning a.schema a.doc 0 steps) refl t
    by false e t = absurd (version-differs (a.from + length a.log) from count t)

applies-accepted : (a : Archive) (version : ℕ) (steps : List (Named Step)) → Applies a version steps
    → answer_text a.from (presented_at a version steps).0 ≡ accepted_text (version_of a) (length steps)
applies-accepted a version steps h =
    ap (λ b. answer_text a.from (chosen a steps b).0) (tests-equal version (version_of a) h.0)
    ∙ ap (λ r. answer_text a.from (tried meaning a.schema (authority_of a) steps r).0) (fold-run meaning a.schema a.doc h.1.0 0 steps h.1.1)

-- ---- submissions

abbrev pub by_room : Archive → ℕ → List ℕ → List Step → Bool → List ℕ × Archive
by_room a version id steps b =
    if b then told a id (presented_at a version (named (number_of a.ids id) (version + 1) steps)) else (fault_text BadClients, a)

asked : (a : Archive) (w : DocWord) (d : Data) (version : ℕ) (id : List ℕ) (steps : List Step) → wish_in a.schema.spec w d ≡ Ok (Submit version id steps)
    → (b : Bool) → has_room a.ids id ≡ b → answered a w d ≡ by_room a version id steps b
asked a w d version id steps asks b room = ap (answer a) asks ∙ ap (by_room a version id steps) room

pub accepts : AcceptsExactly
accepts a d version id steps asks = from (has_room a.ids id) refl
  where
    all : List (Named Step)
    all = named (number_of a.ids id) (version + 1) steps

    from : (b : Bool) → has_room a.ids id ≡ b → IsAccepted a (answered a word.Submit d).0 version id steps
    from true room =
        let is = ap (λ p. p.0) (asked a word.Submit d version id steps asks true room) in (
          λ text. (let p = accepted-applies a version all version (length steps) (sym is ∙ text) in (room, p.0, p.1)),
          λ h. is ∙ (applies-accepted a version all (h.1, h.2)
              ∙ (ap (λ n. accepted_text n (length all)) (sym h.1)
              ∙ ap (accepted_text version) (length-named (number_of a.ids id) (version + 1) steps))),
        )
    from false room = (
      λ text. absurd (fault-differs BadClients version (length steps) (sym (ap (λ p. p.0) (asked a word.Submit d version id steps asks false room)) ∙ text)),
      λ h. absurd (no-room-is-room (has_room a.ids id) room h.0),
    )

-- ---- faults

a-is-not-f : ◌≡◌ {A = ℕ} 97 102 → ⊥
a-is-not-f e = omega (arith, e)

accepted-differs : (from count : ℕ) (code : Code) → accepted_text from count ≡ fault_text code → ⊥
accepted-differs from count code h = a-is-not-f (ap (λ xs. get_or xs 2 0) h)

told-fault : (a next : Archive) (given : LiveAnswer) (code : Code) → answer_text a.from given ≡ fault_text code → (if is_accepted given then next else a) ≡ a
told-fault a next (Accepted from count) code h = absurd (accepted-differs (a.from + from) count code h)
told-fault a next (WrongVersion size) code h = refl
told-fault a next (StepRefused index reason) code h = refl
told-fault a next (Entries since entries) code h = refl

from-differs : (from : ℕ) (code : Code) → from_text from ≡ fault_text code → ⊥
from-differs from code h = r-is-not-a (ap (λ xs. get_or xs 3 0) h)

forgotten-fault : (a : Archive) (version : ℕ) (code : Code) → (forgotten a version).0 ≡ fault_text code → (forgotten a version).1 ≡ a
forgotten-fault a version code h = from (nat_lt version a.from) (nat_lt (version_of a) version) h
  where
    from : (below past : Bool) → (by_tests a version below past).0 ≡ fault_text code → (by_tests a version below past).1 ≡ a
    from true past h = refl
    from false true h = refl
    from false false h = absurd (from-differs version code h)

submit-fault : (a : Archive) (version : ℕ) (id : List ℕ) (steps : List Step) (code : Code) → (submitted a version id steps).0 ≡ fault_text code
    → (submitted a version id steps).1 ≡ a
submit-fault a version id steps code h = from (has_room a.ids id) h
  where
    given : Given
    given = presented_at a version (named (number_of a.ids id) (version + 1) steps)

    from : (b : Bool) → (by_room a version id steps b).0 ≡ fault_text code → (by_room a version id steps b).1 ≡ a
    from true h = told-fault a (with_authority a given.1 (with_id a.ids id)) given.0 code h
    from false h = refl

reverted-differs : (s : SchemaSpec) (version : ℕ) (apart : Bool) (steps : List Step) (code : Code) → reverted_text s version apart steps ≡ fault_text code → ⊥
reverted-differs s version apart steps code h = a-is-not-f (ap (λ xs. get_or xs 2 0) h)

reverted-fault : (a : Archive) (id : List ℕ) (version count : ℕ) (code : Code) → (reverted a id version count).0 ≡ fault_text code → (reverted a id version count).1 ≡ a
reverted-fault a id version count code =
    each-answer (λ (p : List ℕ × Archive). p.0 ≡ fault_text code → p.1 ≡ a) a id version count (λ h. refl) (λ h. refl) (λ h. refl) (λ h. refl) (λ e. λ h. refl)
    (λ before t kept room given comes. λ h. absurd (reverted-differs a.schema.spec (version_of a) (is_apart a version count) t.steps code h))

edited-differs : (s : SchemaSpec) (version : ℕ) (steps : List Step) (code : Code) → edited_text s version steps ≡ fault_text code → ⊥
edited-differs s version steps code h = a-is-not-f (ap (λ xs. get_or xs 2 0) h)

edited-fault : (a : Archive) (id : List ℕ) (r : Result (List Step) NoStep) (code : Code) → (edited a id r).0 ≡ fault_text code → (edited a id r).1 ≡ a
edited-fault a id (Err reason) code h = refl
edited-fault a id (Ok steps) code h = from (nat_lt MAX_VERSION (version_of a)) h
  where
    given : List ℕ × Archive
    given = submitted a (version_of a) id steps

    by : (same : Bool) → (if same then given.0 else edited_text a.schema.spec (version_of a) steps) ≡ fault_text code → given.1 ≡ a
    by true h = submit-fault a (version_of a) id steps code h
    by false h = absurd (edited-differs a.schema.spec (version_of a) steps code h)

    from : (last : Bool) → (by_last a id steps last).0 ≡ fault_text code → (by_last a id steps last).1 ≡ a
    from true h = refl
    from false h = by (version_of given.1 == version_of a) h

answer-fault : (a : Archive) (r : Result Wish Code) (code : Code) → (answer a r).0 ≡ fault_text code → (answer a r).1 ≡ a
answer-fault a (Ok (Submit version id steps)) code h = submit-fault a version id steps code h
answer-fault a (Ok (Since version most)) code h = refl
answer-fault a (Ok (Doc version)) code h = refl
answer-fault a (Ok (Forget version)) code h = forgotten-fault a version code h
answer-fault a (Ok (Map from to anchors)) code h = refl
answer-fault a (Ok (Revert id version count)) code h = reverted-fault a id version count code h
answer-fault a (Ok (Edit id op)) code h = edited-fault a id (steps_of a.schema a.doc op) code h
answer-fault a (Ok (Authors from)) code h = refl
answer-fault a (Err own) code h = refl

pub faults-change-nothing : FaultsChangeNothing
faults-change-nothing a w d code h = answer-fault a (wish_in a.schema.spec w d) code h
