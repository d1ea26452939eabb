-- What a line leaves of a document: its name, and that it is valid.
use Rattle.std.proofs.Common.{◌≡◌, ◌∙◌, ◌+◌, ◌++◌, ℕ, Bool, true, false, List, [], ◌∷◌, refl, ap, sym, append-nil, Result, Ok, Err}
use Rattle.std.specs.Prelude.{◌==◌, nat_lt, length, if◌then◌else◌}
use Rattle.serde_json.specs.Data.{Data}
use Rattle.pm_tokens.specs.Tokens.{Doc as Document}
use Rattle.pm_tokens.specs.Faults.{Valid}
use Rattle.pm_schema.specs.declared.schema.Schema.{Schema}
use Rattle.pm_schema.specs.Documents.{documents_of}
use Rattle.pm_meaning.specs.Steps.{Step}
use Rattle.pm_meaning.specs.declared.reason.Reason.{Reason}
use Rattle.pm_change.specs.declared.no_step.NoStep.{NoStep}
use Rattle.pm_apply.specs.Changes.{meaning}
use Rattle.pm_apply.specs.Laws.{laws}
use Rattle.pm_head.specs.declared.code.Code.{Code}
use Rattle.pm_head.specs.declared.code.Code.TheVariants.{BadClients}
use Rattle.pm_authority.specs.declared.named.Named.{Named}
use Rattle.pm_authority.specs.declared.running.Refusal.{Refusal}
use Rattle.pm_authority.specs.declared.message.Answer.TheVariants.{WrongVersion}
use Rattle.pm_authority.specs.Runs.{run}
use Rattle.pm_authority.specs.Presents.{tried}
use Rattle.pm_authority.specs.Kept.{IsKept}
use Rattle.pm_authority.proofs.RunFolds.{kept-append}
use Rattle.pm_talk.specs.Ids.{number_of, has_room, with_id}
use Rattle.pm_talk.specs.Texts.{fault_text}
use Rattle.pm_talk.specs.Live.{LiveAuthority, LiveAnswer, named, some_steps, is_accepted}
use Rattle.pm_order.specs.declared.word.DocWord.{DocWord}
use Rattle.pm_order.specs.declared.wish.Wish.{Wish}
use Rattle.pm_order.specs.declared.wish.Wish.TheVariants.{Submit, Since, Doc, Forget, Map, Revert, Edit, Authors}
use Rattle.pm_order.specs.Wishes.{wish_in}
use Rattle.pm_edit.specs.Ops.{steps_of}
use Rattle.pm_archive.specs.declared.archive.Archive.{Archive}
use Rattle.pm_archive.specs.declared.reverting.TheConstants.{MAX_VERSION}
use Rattle.pm_archive.specs.Archives.{authority_of, version_of, with_authority, IsArchive, opened}
use Rattle.pm_archive.specs.Answers.{presented_at, told, submitted, reverted, edited, answer, answered}
use Rattle.pm_archive.proofs.Forgotten.{forgotten-name, forgotten-good}
use Rattle.pm_archive.proofs.Reverted.{each-answer}
use Rattle.pm_archive.proofs.Edited.{by_last}

-- ---- steps that are presented

abbrev pub Given : Type 0
Given = LiveAnswer × LiveAuthority

abbrev pub chosen : Archive → List (Named Step) → Bool → Given
chosen a steps b = if b then tried meaning a.schema (authority_of a) steps (run meaning a.schema a.doc 0 steps) else (WrongVersion (length a.log), authority_of a)

-- an authority that is kept stays so
pub presented-kept : (a : Archive) (version : ℕ) (steps : List (Named Step)) → IsArchive a → IsKept meaning a.schema (presented_at a version steps).1
presented-kept a version steps kept = from (version == version_of a)
  where
    ran : (r : Result Document (Refusal Reason)) → run meaning a.schema a.doc 0 steps ≡ r → IsKept meaning a.schema (tried meaning a.schema (authority_of a) steps r).1
    ran (Ok d) e = kept-append meaning a.schema laws (authority_of a) d steps kept e
    ran (Err x) e = kept

    from : (b : Bool) → IsKept meaning a.schema (chosen a steps b).1
    from true = ran (run meaning a.schema a.doc 0 steps) refl
    from false = kept

-- where no step was accepted, nothing changes
pub unaccepted : (a : Archive) (version : ℕ) (steps : List (Named Step)) → is_accepted (presented_at a version steps).0 ≡ false
    → (presented_at a version steps).1 ≡ authority_of a
unaccepted a version steps e = from (version == version_of a) e
  where
    none : (d : Document) (xs : List (Named Step)) → run meaning a.schema a.doc 0 xs ≡ Ok d → some_steps (length xs) ≡ false
        → record { first = a.first; doc = d; log = a.log ++ xs } ≡ authority_of a
    none d [] q e =
        let same : a.doc ≡ d = cc in
        ap (λ x. record { first = a.first; doc = x; log = a.log ++ [] }) (sym same) ∙ ap (λ xs. record { first = a.first; doc = a.doc; log = xs }) (append-nil a.log)
    none d (x ∷ xs) q e = absurd (cc)

    ran : (r : Result Document (Refusal Reason)) → run meaning a.schema a.doc 0 steps ≡ r → is_accepted (tried meaning a.schema (authority_of a) steps r).0 ≡ false
        → (tried meaning a.schema (authority_of a) steps r).1 ≡ authority_of a
    ran (Ok d) q e = none d steps q e
    ran (Err x) q e = refl

    from : (b : Bool) → is_accepted (chosen a steps b).0 ≡ false → (chosen a steps b).1 ≡ authority_of a
    from true e = ran (run meaning a.schema a.doc 0 steps) refl e
    from false e = refl

-- ---- names

told-name : (a : Archive) (next : LiveAuthority) (ids : List (List ℕ)) (b : Bool) → (if b then with_authority a next ids else a).name ≡ a.name
told-name a next ids true = refl
told-name a next ids false = refl

submitted-name : (a : Archive) (version : ℕ) (id : List ℕ) (steps : List Step) → (submitted a version id steps).1.name ≡ a.name
submitted-name a version id steps = from (has_room a.ids id)
  where
    given : Given
    given = presented_at a version (named (number_of a.ids id) (version + 1) steps)

    from : (b : Bool) → (if b then told a id given else (fault_text BadClients, a)).1.name ≡ a.name
    from true = told-name a given.1 (with_id a.ids id) (is_accepted given.0)
    from false = refl

reverted-name : (a : Archive) (id : List ℕ) (version count : ℕ) → (reverted a id version count).1.name ≡ a.name
reverted-name a id version count =
    each-answer (λ (p : List ℕ × Archive). p.1.name ≡ a.name) a id version count refl refl refl refl (λ e. refl)
    (λ before t kept room given comes. submitted-name a (version_of a) id t.steps)

edited-name : (a : Archive) (id : List ℕ) (r : Result (List Step) NoStep) → (edited a id r).1.name ≡ a.name
edited-name a id (Err reason) = refl
edited-name a id (Ok steps) = from (nat_lt MAX_VERSION (version_of a))
  where
    from : (last : Bool) → (by_last a id steps last).1.name ≡ a.name
    from true = refl
    from false = submitted-name a (version_of a) id steps

answer-name : (a : Archive) (r : Result Wish Code) → (answer a r).1.name ≡ a.name
answer-name a (Ok (Submit version id steps)) = submitted-name a version id steps
answer-name a (Ok (Since version most)) = refl
answer-name a (Ok (Doc version)) = refl
answer-name a (Ok (Forget version)) = forgotten-name a version
answer-name a (Ok (Map from to anchors)) = refl
answer-name a (Ok (Revert id version count)) = reverted-name a id version count
answer-name a (Ok (Edit id op)) = edited-name a id (steps_of a.schema a.doc op)
answer-name a (Ok (Authors from)) = refl
answer-name a (Err code) = refl

pub answered-name : (a : Archive) (word : DocWord) (d : Data) → (answered a word d).1.name ≡ a.name
answered-name a word d = answer-name a (wish_in a.schema.spec word d)

-- ---- validity

told-good : (a : Archive) (next : LiveAuthority) (ids : List (List ℕ)) (b : Bool) → IsArchive a → IsKept meaning a.schema next
    → IsArchive (if b then with_authority a next ids else a)
told-good a next ids true good kept = kept
told-good a next ids false good kept = good

submitted-good : (a : Archive) (version : ℕ) (id : List ℕ) (steps : List Step) → IsArchive a → IsArchive (submitted a version id steps).1
submitted-good a version id steps good = from (has_room a.ids id)
  where
    all : List (Named Step)
    all = named (number_of a.ids id) (version + 1) steps

    from : (b : Bool) → IsArchive (if b then told a id (presented_at a version all) else (fault_text BadClients, a)).1
    from true =
        told-good a (presented_at a version all).1 (with_id a.ids id) (is_accepted (presented_at a version all).0) good (presented-kept a version all good)
    from false = good

reverted-good : (a : Archive) (id : List ℕ) (version count : ℕ) → IsArchive a → IsArchive (reverted a id version count).1
reverted-good a id version count good =
    each-answer (λ (p : List ℕ × Archive). IsArchive p.1) a id version count good good good good (λ e. good)
    (λ before t kept room given comes. submitted-good a (version_of a) id t.steps good)

edited-good : (a : Archive) (id : List ℕ) (r : Result (List Step) NoStep) → IsArchive a → IsArchive (edited a id r).1
edited-good a id (Err reason) good = good
edited-good a id (Ok steps) good = from (nat_lt MAX_VERSION (version_of a))
  where
    from : (last : Bool) → IsArchive (by_last a id steps last).1
    from true = good
    from false = submitted-good a (version_of a) id steps good

answer-good : (a : Archive) (r : Result Wish Code) → IsArchive a → IsArchive (answer a r).1
answer-good a (Ok (Submit version id steps)) good = submitted-good a version id steps good
answer-good a (Ok (Since version most)) good = good
answer-good a (Ok (Doc version)) good = good
answer-good a (Ok (Forget version)) good = forgotten-good a version good
answer-good a (Ok (Map from to anchors)) good = good
answer-good a (Ok (Revert id version count)) good = reverted-good a id version count good
answer-good a (Ok (Edit id op)) good = edited-good a id (steps_of a.schema a.doc op) good
answer-good a (Ok (Authors from)) good = good
answer-good a (Err code) good = good

pub answered-good : (a : Archive) (word : DocWord) (d : Data) → IsArchive a → IsArchive (answered a word d).1
answered-good a word d good = answer-good a (wish_in a.schema.spec word d) good

pub opened-good : (name kind : List ℕ) (s : Schema) (version : ℕ) (doc : Document) (ids : List (List ℕ)) → Valid (documents_of s.spec) doc
    → IsArchive (opened name kind s version doc ids)
opened-good name kind s version doc ids valid = record { first_good = valid; good = valid; folded = refl }
