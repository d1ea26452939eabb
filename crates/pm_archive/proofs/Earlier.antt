-- The document as it was at a version.
use Rattle.std.proofs.Common.{◌≡◌, ◌∙◌, ◌+◌, ◌-◌, ◌≤◌, arith, ℕ, false, List, String, string_bytes, length, take, ap, sym, Result, Ok, Err}
use Rattle.std.specs.Prelude.{Some, IfOk, nat_lt, if◌then◌else◌}
use Rattle.std.specs.declared.alloc.Global.{Global}
use Rattle.std.proofs.lemmas.Bool.{le-ltb}
use Rattle.std.proofs.lemmas.List.{take_all}
use Rattle.pm_tokens.specs.Tokens.{Doc as Document}
use Rattle.pm_meaning.specs.Steps.{Step}
use Rattle.pm_change.specs.Changes.{fold}
use Rattle.pm_apply.specs.Changes.{meaning}
use Rattle.pm_authority.specs.declared.named.Named.{Named}
use Rattle.pm_authority.specs.Runs.{run, changes_of}
use Rattle.pm_authority.proofs.RunFolds.{run-fold}
use Rattle.pm_talk.specs.Texts.{version_text}
use Rattle.pm_archive.specs.declared.archive.Archive.{Archive}
use Rattle.pm_archive.specs.Archives.{version_of, IsArchive}
use Rattle.pm_archive.specs.Texts.{from_text}
use Rattle.pm_archive.specs.Answers.{doc_text, doc_at, some_doc_text, asked_doc_text}

-- what the first steps of the log run to is the document then
pub run-at : (a : Archive) (version : ℕ) (doc : Document) → run meaning a.schema a.first 0 (take (version - a.from) a.log) ≡ Ok doc
    → doc_at a version ≡ Some doc
run-at a version doc ran = run-fold meaning a.schema a.first doc 0 (take (version - a.from) a.log) ran

-- at its version the document is as it is
pub last-at : (a : Archive) (version : ℕ) → IsArchive a → version ≡ version_of a → doc_at a version ≡ Some a.doc
last-at a version good same =
    let long : length a.log ≤ version - a.from = omega arith in
    ap (λ (xs : List (Named Step)). fold meaning a.schema a.first (changes_of xs)) (take_all (version - a.from) a.log long) ∙ good.folded

-- a document that stood at a kept version is told
earlier-is : (a : Archive) (version : ℕ) (doc : Document) → a.from ≤ version → version ≤ version_of a → doc_at a version ≡ Some doc
    → doc_text a.schema.spec doc version ≡ asked_doc_text a (Some version)
earlier-is a version doc from behind given =
    sym (ap (λ b. if b then from_text a.from
    else (if nat_lt (version_of a) version then version_text (version_of a) else some_doc_text a version (doc_at a version))) (le-ltb version a.from from)
    ∙ (ap (λ b. if b then version_text (version_of a) else some_doc_text a version (doc_at a version)) (le-ltb (version_of a) version behind)
    ∙ ap (some_doc_text a version) given))

pub earlier-text : {E : Type 0} (result : Result (String Global) E) (a : Archive) (version : ℕ) (doc : Document) → a.from ≤ version → version ≤ version_of a
    → doc_at a version ≡ Some doc
    → IfOk result (λ s. string_bytes s ≡ doc_text a.schema.spec doc version)
    → IfOk result (λ s. string_bytes s ≡ asked_doc_text a (Some version))
earlier-text (Ok s) a version doc from behind given told = told ∙ earlier-is a version doc from behind given
earlier-text (Err e) a version doc from behind given told = tt
