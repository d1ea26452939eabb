-- Where positions of the document at a version go.
use Rattle.std.proofs.Common.{◌≡◌, ◌∙◌, ◌-◌, ◌≤◌, ◌<◌, ℕ, Bool, true, false, List, [], ◌∷◌, drop, take, refl, ap, sym}
use Rattle.std.specs.Prelude.{◌↔◌, Option, Some, nat_le, if◌then◌else◌}
use Rattle.std.proofs.lemmas.Bool.{and_parts, leb-true, le-leb, le-ltb, lt-ltb}
use Rattle.pm_tokens.specs.Tokens.{Doc as Document}
use Rattle.pm_meaning.specs.Steps.{Step}
use Rattle.pm_change.proofs.Folds.{fold-good}
use Rattle.pm_apply.specs.Changes.{meaning}
use Rattle.pm_apply.specs.Laws.{laws}
use Rattle.pm_authority.specs.declared.named.Named.{Named}
use Rattle.pm_authority.specs.Runs.{changes_of}
use Rattle.pm_authority.proofs.RunFolds.{run-fold}
use Rattle.pm_client.specs.declared.cursors.Cursor.{Cursor}
use Rattle.pm_client.specs.Cursors.{AreWithin}
use Rattle.pm_anchors.specs.Anchors.{MayFollow}
use Rattle.pm_archive.specs.declared.archive.Archive.{Archive}
use Rattle.pm_archive.specs.Archives.{version_of, IsArchive}
use Rattle.pm_archive.specs.Texts.{from_text}
use Rattle.pm_archive.specs.Mapping.{all_within, between_text}
use Rattle.pm_archive.specs.Answers.{doc_at, entries_from, mapped_text}
use Rattle.pm_archive.proofs.Fronts.{first-apply}
use Rattle.pm_archive.proofs.Forgotten.{rest-apply}

-- ---- positions within a document

within-so : (size : ℕ) (anchors : List Cursor) → AreWithin size anchors → all_within size anchors ≡ true
within-so size [] h = refl
within-so size (a ∷ rest) h = rw (le-leb a.pos size h.0) (within-so size rest h.1)

so-within : (size : ℕ) (anchors : List Cursor) → all_within size anchors ≡ true → AreWithin size anchors
so-within size [] h = tt
so-within size (a ∷ rest) h =
    let p = and_parts (nat_le a.pos size) (all_within size rest) h in
    (leb-true a.pos size p.0, so-within size rest p.1)

pub within-is : (b : Bool) (size : ℕ) (anchors : List Cursor) → (b ≡ true) ↔ AreWithin size anchors → b ≡ all_within size anchors
within-is true size anchors h = sym (within-so size anchors (h.0 refl))
within-is false size anchors h = from (all_within size anchors) refl
  where
    from : (w : Bool) → all_within size anchors ≡ w → false ≡ w
    from true e = h.1 (so-within size anchors e)
    from false e = refl

-- ---- the entries may be followed

pub may-follow : (a : Archive) (from to : ℕ) (anchors : List Cursor) (doc : Document) → IsArchive a → doc_at a from ≡ Some doc
    → all_within (meaning.size doc) anchors ≡ true → MayFollow meaning (entries_from a from (Some (to - from))) anchors
may-follow a from to anchors doc good given within =
    let n : ℕ = from - a.from in
    let k : ℕ = to - from in
    let f = first-apply meaning a.schema doc a.doc (drop n a.log) k (rest-apply a.schema a.first doc a.doc a.log n given good.folded) in
    record {
      rules = a.schema;
      before = doc;
      after = f.0;
      good = fold-good meaning a.schema laws a.first doc (changes_of (take n a.log)) good.first_good given;
      apply = run-fold meaning a.schema doc f.0 0 (take k (drop n a.log)) f.1;
      within = so-within (meaning.size doc) anchors within;
    }

-- ---- what another document answers

pub mapped-below : (a : Archive) (from to : ℕ) (anchors : List Cursor) → from < a.from → mapped_text a from to anchors ≡ from_text a.from
mapped-below a from to anchors h =
    ap (λ t. if t then from_text a.from
    else between_text (version_of a) from to (entries_from a from (Some (to - from))) anchors (doc_at a from)) (lt-ltb from a.from h)

kept-is : (a : Archive) (from to : ℕ) (anchors : List Cursor) → a.from ≤ from
    → mapped_text a from to anchors ≡ between_text (version_of a) from to (entries_from a from (Some (to - from))) anchors (doc_at a from)
kept-is a from to anchors h =
    ap (λ t. if t then from_text a.from
    else between_text (version_of a) from to (entries_from a from (Some (to - from))) anchors (doc_at a from)) (le-ltb from a.from h)

-- one with the same entries, the same document then and the same version now answers the same
pub mapped-same : (a b : Archive) (from to : ℕ) (anchors : List Cursor) → a.from ≤ from → b.from ≤ from → version_of b ≡ version_of a
    → entries_from b from (Some (to - from)) ≡ entries_from a from (Some (to - from)) → doc_at b from ≡ doc_at a from
    → mapped_text b from to anchors ≡ mapped_text a from to anchors
mapped-same a b from to anchors l m v e d =
    kept-is b from to anchors m
    ∙ (ap (λ n. between_text n from to (entries_from b from (Some (to - from))) anchors (doc_at b from)) v
    ∙ (ap (λ (xs : List (Named Step)). between_text (version_of a) from to xs anchors (doc_at b from)) e
    ∙ (ap (λ (o : Option Document). between_text (version_of a) from to (entries_from a from (Some (to - from))) anchors o) d
    ∙ sym (kept-is a from to anchors l))))
