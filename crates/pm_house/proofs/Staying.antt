-- A document with the first kept version and as many entries as before a line is as it was before.
use Rattle.std.proofs.Common.{◌≡◌, ◌∙◌, ◌+◌, ◌-◌, ◌++◌, ℕ, Bool, true, false, List, [], ◌∷◌, length, take, drop, refl, ap, sym, arith, Result, Ok, Err, length-append}
use Rattle.std.specs.Prelude.{Option, None, Some, nat_lt, ◌==◌, ◌&&◌, if◌then◌else◌}
use Rattle.std.proofs.lemmas.Bool.{and_parts}
use Rattle.std.proofs.lemmas.Bool.Decides.{nat_tests}
use Rattle.serde_json.specs.Data.{Data}
use Rattle.pm_tokens.specs.Tokens.{Doc as Document}
use Rattle.pm_meaning.specs.Steps.{Step}
use Rattle.pm_meaning.specs.declared.reason.Reason.{Reason}
use Rattle.pm_change.specs.declared.no_step.NoStep.{NoStep}
use Rattle.pm_change.specs.Changes.{fold}
use Rattle.pm_apply.specs.Changes.{meaning}
use Rattle.pm_head.specs.declared.code.Code.{Code}
use Rattle.pm_head.specs.declared.code.Code.TheVariants.{BadClients}
use Rattle.pm_authority.specs.declared.named.Named.{Named}
use Rattle.pm_authority.specs.declared.running.Refusal.{Refusal}
use Rattle.pm_authority.specs.Runs.{run, changes_of}
use Rattle.pm_authority.specs.Presents.{tried}
use Rattle.pm_talk.specs.Ids.{number_of, has_room}
use Rattle.pm_talk.specs.Live.{named}
use Rattle.pm_talk.specs.Texts.{fault_text}
use Rattle.pm_order.specs.declared.word.DocWord.{DocWord}
use Rattle.pm_order.specs.declared.wish.Wish.{Wish}
use Rattle.pm_order.specs.declared.wish.Wish.TheVariants.{Submit, Since, Doc, Forget, Map, Revert, Edit, Authors}
use Rattle.pm_order.specs.Wishes.{wish_in}
use Rattle.pm_edit.specs.Ops.{steps_of}
use Rattle.pm_archive.specs.declared.archive.Archive.{Archive}
use Rattle.pm_archive.specs.Archives.{authority_of, version_of}
use Rattle.pm_archive.specs.Answers.{told, presented_at, submitted, edited, doc_at, begun, forgotten, answer, answered}
use Rattle.pm_archive.proofs.Forgotten.{by_tests}
use Rattle.pm_archive.proofs.Names.{chosen}
use Rattle.pm_archive.proofs.Reverted.{each-answer}
use Rattle.pm_archive.proofs.Edited.{by_last}
use Rattle.pm_house.proofs.Finding.{some-inner}

-- what has a document's sizes is that document
abbrev Stays : Archive → Archive → Type 0
Stays a next = ((a.from == next.from) && (length a.log == length next.log)) ≡ true → next ≡ a

-- ---- submissions

no-longer : (log : List (Named Step)) (step : Named Step) (steps : List (Named Step)) → (length log == length (log ++ step ∷ steps)) ≡ true → ⊥
no-longer log step steps h =
    let same : length log ≡ length (log ++ step ∷ steps) = grind (arith, nat_tests) in
    omega (arith, same, length-append log (step ∷ steps))

tried-stays : (a : Archive) (id : List ℕ) (steps : List (Named Step)) (r : Result Document (Refusal Reason)) → Stays a (told a id (tried meaning a.schema (authority_of a) steps r)).1
tried-stays a id [] (Ok doc) same = refl
tried-stays a id (step ∷ steps) (Ok doc) same = absurd (no-longer a.log step steps (and_parts _ _ same).1)
tried-stays a id steps (Err e) same = refl

-- by whether the version is the document's
version-stays : (a : Archive) (id : List ℕ) (steps : List (Named Step)) (b : Bool) → Stays a (told a id (chosen a steps b)).1
version-stays a id steps true = tried-stays a id steps (run meaning a.schema a.doc 0 steps)
version-stays a id steps false = λ same. refl

-- by whether there is room for the ID
room-stays : (a : Archive) (b : Bool) (t : List ℕ × Archive) → Stays a t.1 → Stays a (if b then t else (fault_text BadClients, a)).1
room-stays a true t h = h
room-stays a false t h = λ same. refl

submit-stays : (a : Archive) (version : ℕ) (id : List ℕ) (steps : List Step) → Stays a (submitted a version id steps).1
submit-stays a version id steps =
    room-stays a (has_room a.ids id) (told a id (presented_at a version (named (number_of a.ids id) (version + 1) steps)))
    (version-stays a id (named (number_of a.ids id) (version + 1) steps) (version == version_of a))

-- by whether no client can submit
edit-stays : (a : Archive) (id : List ℕ) (steps : List Step) (last : Bool) → Stays a (by_last a id steps last).1
edit-stays a id steps true = λ same. refl
edit-stays a id steps false = submit-stays a (version_of a) id steps

edited-stays : (a : Archive) (id : List ℕ) (r : Result (List Step) NoStep) → Stays a (edited a id r).1
edited-stays a id (Err reason) = λ same. refl
edited-stays a id (Ok steps) = edit-stays a id steps _

-- ---- what is let go

none-taken : (log : List (Named Step)) → take 0 log ≡ []
none-taken [] = refl
none-taken (entry ∷ log) = refl

none-dropped : (log : List (Named Step)) → drop 0 log ≡ log
none-dropped [] = refl
none-dropped (entry ∷ log) = refl

-- the first version again
begun-stays : (a : Archive) (version : ℕ) (first : Option Document) → doc_at a version ≡ first → Stays a (begun a version first)
begun-stays a version None e same = refl
begun-stays a version (Some first) e same =
    let tests = and_parts _ _ same in
    let at : a.from ≡ version = by-test a.from version tests.0 in
    let none : version - a.from ≡ 0 = omega (arith, at) in
    let own : a.first ≡ first =
    some-inner a.first first
    (sym (ap (λ (n : ℕ). fold meaning a.schema a.first (changes_of (take n a.log))) none ∙ ap (λ (log : List (Named Step)). fold meaning a.schema a.first (changes_of log)) (none-taken a.log))
    ∙ e) in
    let kept : drop (version - a.from) a.log ≡ a.log = ap (λ (n : ℕ). drop n a.log) none ∙ none-dropped a.log in
    ap (λ (log : List (Named Step)). record { name = a.name; kind = a.kind; schema = a.schema; from = version; first = first; doc = a.doc; log = log; ids = a.ids }) kept
    ∙ (ap (λ (n : ℕ). record { name = a.name; kind = a.kind; schema = a.schema; from = n; first = first; doc = a.doc; log = a.log; ids = a.ids }) (sym at)
    ∙ ap (λ (x : Document). record { name = a.name; kind = a.kind; schema = a.schema; from = a.from; first = x; doc = a.doc; log = a.log; ids = a.ids }) (sym own))
  where
    by-test : (m n : ℕ) → (m == n) ≡ true → m ≡ n
    by-test m n h = grind (arith, nat_tests)

forgotten-stays : (a : Archive) (version : ℕ) → Stays a (forgotten a version).1
forgotten-stays a version = from (nat_lt version a.from) (nat_lt (version_of a) version)
  where
    from : (below past : Bool) → Stays a (by_tests a version below past).1
    from true past = λ same. refl
    from false true = λ same. refl
    from false false = begun-stays a version (doc_at a version) refl

-- ---- all of them

answer-stays : (a : Archive) (r : Result Wish Code) → Stays a (answer a r).1
answer-stays a (Ok (Submit version id steps)) = submit-stays a version id steps
answer-stays a (Ok (Since version most)) = λ same. refl
answer-stays a (Ok (Doc version)) = λ same. refl
answer-stays a (Ok (Forget version)) = forgotten-stays a version
answer-stays a (Ok (Map from to anchors)) = λ same. refl
answer-stays a (Ok (Revert id version count)) =
    each-answer (λ (p : List ℕ × Archive). Stays a p.1) a id version count (λ same. refl) (λ same. refl) (λ same. refl) (λ same. refl) (λ e. λ same. refl)
    (λ before t kept room given comes. submit-stays a (version_of a) id t.steps)
answer-stays a (Ok (Edit id op)) = edited-stays a id (steps_of a.schema a.doc op)
answer-stays a (Ok (Authors from)) = λ same. refl
answer-stays a (Err code) = λ same. refl

pub answered-stays : (a : Archive) (w : DocWord) (d : Data) → ((a.from == (answered a w d).1.from) && (length a.log == length (answered a w d).1.log)) ≡ true → (answered a w d).1 ≡ a
answered-stays a w d = answer-stays a (wish_in a.schema.spec w d)
