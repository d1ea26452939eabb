-- Who put the tokens of a document in.
use Rattle.std.proofs.Common.{◌≡◌, ◌∙◌, ◌-◌, ◌≤◌, ◌<◌, ℕ, Bool, List, take, refl, ap, sym}
use Rattle.std.specs.Prelude.{Option, None, Some, nat_lt, if◌then◌else◌}
use Rattle.std.proofs.lemmas.Bool.{le-ltb, lt-ltb}
use Rattle.pm_tokens.specs.Tokens.{Doc as Document}
use Rattle.pm_meaning.specs.Steps.{Step}
use Rattle.pm_change.proofs.Folds.{fold-good}
use Rattle.pm_apply.specs.Changes.{meaning}
use Rattle.pm_apply.specs.Laws.{laws}
use Rattle.pm_authority.specs.declared.named.Named.{Named}
use Rattle.pm_authority.specs.Runs.{changes_of}
use Rattle.pm_authors.specs.Authors.{ApplyFrom}
use Rattle.pm_archive.specs.declared.archive.Archive.{Archive}
use Rattle.pm_archive.specs.Archives.{version_of, IsArchive}
use Rattle.pm_archive.specs.Texts.{from_text}
use Rattle.pm_archive.specs.Authoring.{since_authors_text}
use Rattle.pm_archive.specs.Answers.{doc_at, entries_from, asked_authors_text}
use Rattle.pm_archive.proofs.Forgotten.{rest-apply}

-- the entries apply one after another
pub apply-from : (a : Archive) (from : ℕ) (doc : Document) → IsArchive a → doc_at a from ≡ Some doc
    → ApplyFrom meaning (entries_from a from None) (meaning.size doc)
apply-from a from doc good given =
    let n : ℕ = from - a.from in
    record {
      rules = a.schema;
      first = doc;
      last = a.doc;
      good = fold-good meaning a.schema laws a.first doc (changes_of (take n a.log)) good.first_good given;
      apply = rest-apply a.schema a.first doc a.doc a.log n given good.folded;
      sized = refl;
    }

-- ---- what another document answers

-- the definition, by whether the version lies below what is kept
abbrev kept_or_not : Archive → ℕ → Bool → List ℕ
kept_or_not a from below =
    if below then from_text a.from else since_authors_text (version_of a) from a.ids (entries_from a from None) (doc_at a from)

pub authored-below : (a : Archive) (from : ℕ) → from < a.from → asked_authors_text a from ≡ from_text a.from
authored-below a from h = ap (kept_or_not a from) (lt-ltb from a.from h)

kept-is : (a : Archive) (from : ℕ) → a.from ≤ from
    → asked_authors_text a from ≡ since_authors_text (version_of a) from a.ids (entries_from a from None) (doc_at a from)
kept-is a from h = ap (kept_or_not a from) (le-ltb from a.from h)

-- one with the same IDs, the same entries, the same document then and the same version now answers the same
pub authored-same : (a b : Archive) (from : ℕ) → a.from ≤ from → b.from ≤ from → version_of b ≡ version_of a → b.ids ≡ a.ids
    → entries_from b from None ≡ entries_from a from None → doc_at b from ≡ doc_at a from
    → asked_authors_text b from ≡ asked_authors_text a from
authored-same a b from l m v i e d =
    kept-is b from m
    ∙ (ap (λ n. since_authors_text n from b.ids (entries_from b from None) (doc_at b from)) v
    ∙ (ap (λ (ids : List (List ℕ)). since_authors_text (version_of a) from ids (entries_from b from None) (doc_at b from)) i
    ∙ (ap (λ (xs : List (Named Step)). since_authors_text (version_of a) from a.ids xs (doc_at b from)) e
    ∙ (ap (λ (o : Option Document). since_authors_text (version_of a) from a.ids (entries_from a from None) o) d
    ∙ sym (kept-is a from l)))))
