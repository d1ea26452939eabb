-- What a document is once old steps were let go.
use Rattle.std.proofs.Common.{◌≡◌, ◌∙◌, ◌-◌, ◌≤◌, ℕ, Bool, true, false, List, take, drop, refl, ap, sym}
use Rattle.std.specs.Prelude.{Option, None, Some, nat_lt, if◌then◌else◌}
use Rattle.std.proofs.lemmas.Bool.{le-ltb}
use Rattle.std.proofs.lemmas.List.{take-append-drop}
use Rattle.pm_tokens.specs.Tokens.{Doc as Document}
use Rattle.pm_schema.specs.declared.schema.Schema.{Schema}
use Rattle.pm_meaning.specs.Steps.{Step}
use Rattle.pm_change.specs.Changes.{fold}
use Rattle.pm_change.proofs.Folds.{fold-append, fold-good}
use Rattle.pm_apply.specs.Changes.{meaning}
use Rattle.pm_apply.specs.Laws.{laws}
use Rattle.pm_authority.specs.declared.named.Named.{Named}
use Rattle.pm_authority.specs.Runs.{changes_of, AllApply}
use Rattle.pm_authority.proofs.RunFolds.{changes-append}
use Rattle.pm_talk.specs.Texts.{version_text}
use Rattle.pm_archive.specs.declared.archive.Archive.{Archive}
use Rattle.pm_archive.specs.Archives.{version_of, IsArchive}
use Rattle.pm_archive.specs.Texts.{from_text}
use Rattle.pm_archive.specs.Answers.{doc_at, begun_at, begun, forgotten}

-- the definition, by whether the version lies below what is kept, and whether it lies past the document's
abbrev pub by_tests : Archive → ℕ → Bool → Bool → List ℕ × Archive
by_tests a version below past =
    if below then (from_text a.from, a)
    else (if past then (version_text (version_of a), a)
    else (from_text version, begun a version (doc_at a version)))

pub forgotten-is : (a : Archive) (version : ℕ) (first : Document) → a.from ≤ version → version ≤ version_of a → doc_at a version ≡ Some first
    → forgotten a version ≡ (from_text version, begun_at a version first)
forgotten-is a version first from behind given =
    ap (λ b. by_tests a version b (nat_lt (version_of a) version)) (le-ltb version a.from from)
    ∙ (ap (λ b. by_tests a version false b) (le-ltb (version_of a) version behind)
    ∙ ap (λ (o : Option Document). (from_text version, begun a version o)) given)

pub forgot-text : (a : Archive) (version : ℕ) (first : Document) (text : List ℕ) → a.from ≤ version → version ≤ version_of a → doc_at a version ≡ Some first
    → text ≡ from_text version → text ≡ (forgotten a version).0
forgot-text a version first text from behind given t = t ∙ sym (ap (λ (p : List ℕ × Archive). p.0) (forgotten-is a version first from behind given))

pub forgot-after : (a : Archive) (version : ℕ) (first : Document) (log : List (Named Step)) → a.from ≤ version → version ≤ version_of a → doc_at a version ≡ Some first
    → log ≡ drop (version - a.from) a.log
    → record { name = a.name; kind = a.kind; schema = a.schema; from = version; first = first; doc = a.doc; log = log; ids = a.ids } ≡ (forgotten a version).1
forgot-after a version first log from behind given l =
    ap (λ (xs : List (Named Step)).
    record { name = a.name; kind = a.kind; schema = a.schema; from = version; first = first; doc = a.doc; log = xs; ids = a.ids }) l
    ∙ sym (ap (λ (p : List ℕ × Archive). p.1) (forgotten-is a version first from behind given))

-- ---- its name

begun-name : (a : Archive) (version : ℕ) (first : Option Document) → (begun a version first).name ≡ a.name
begun-name a version None = refl
begun-name a version (Some first) = refl

pub forgotten-name : (a : Archive) (version : ℕ) → (forgotten a version).1.name ≡ a.name
forgotten-name a version = from (nat_lt version a.from) (nat_lt (version_of a) version)
  where
    from : (below past : Bool) → (by_tests a version below past).1.name ≡ a.name
    from true past = refl
    from false true = refl
    from false false = begun-name a version (doc_at a version)

-- ---- validity

-- where the first steps of a log give this document, the others lead from it to the last
pub rest-apply : (s : Schema) (first mid doc : Document) (log : List (Named Step)) (n : ℕ)
    → fold meaning s first (changes_of (take n log)) ≡ Some mid → AllApply meaning s first log doc → AllApply meaning s mid (drop n log) doc
rest-apply s first mid doc log n given whole =
    sym (fold-append meaning s first mid (changes_of (take n log)) (changes_of (drop n log)) given)
    ∙ (ap (fold meaning s first) (sym (changes-append (take n log) (drop n log)))
    ∙ (ap (λ (xs : List (Named Step)). fold meaning s first (changes_of xs)) (take-append-drop n log) ∙ whole))

pub begun-good : (a : Archive) (version : ℕ) (first : Option Document) → IsArchive a → doc_at a version ≡ first → IsArchive (begun a version first)
begun-good a version None good given = good
begun-good a version (Some first) good given = record {
  first_good = fold-good meaning a.schema laws a.first first (changes_of (take (version - a.from) a.log)) good.first_good given;
  good = good.good;
  folded = rest-apply a.schema a.first first a.doc a.log (version - a.from) given good.folded;
}

pub forgotten-good : (a : Archive) (version : ℕ) → IsArchive a → IsArchive (forgotten a version).1
forgotten-good a version good = from (nat_lt version a.from) (nat_lt (version_of a) version)
  where
    from : (below past : Bool) → IsArchive (by_tests a version below past).1
    from true past = good
    from false true = good
    from false false = begun-good a version (doc_at a version) good refl
