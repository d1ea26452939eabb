-- Marks are read as a set exactly where they are one.
use Rattle.std.proofs.Common.{◌≡◌, Bool, true, false, refl, cond}
use Rattle.std.specs.Prelude.{Ok, Err}
use Rattle.pm_attrs.specs.Attrs.{same_attrs}
use Rattle.pm_marks.specs.Sets.{IsSet}
use Rattle.pm_tokens.specs.Tokens.{Marks}
use Rattle.pm_tokens.specs.Marks.{is_set}
use Rattle.pm_tokens.proofs.MarkLaws.{set-is, is-set}
use Rattle.pm_schema.specs.declared.spec.SchemaSpec.{SchemaSpec}
use Rattle.pm_schema.specs.MarkTexts.{exclude_table}
use Rattle.pm_schema.specs.Documents.{documents_of}
use Rattle.pm_docjson.specs.declared.fault.DocReadError.TheVariants.{NotASet}
use Rattle.pm_docjson.specs.Reading.{as_set}

pub as_set-yes : (s : SchemaSpec) (ms : Marks) → IsSet same_attrs (exclude_table s) ms → as_set s ms ≡ Ok ms
unfolding documents_of
as_set-yes s ms h = rw (is-set (documents_of s) ms h) refl

pub as_set-no : (s : SchemaSpec) (ms : Marks) → (IsSet same_attrs (exclude_table s) ms → ⊥) → as_set s ms ≡ Err NotASet
unfolding documents_of
as_set-no s ms h = by_test (is_set (documents_of s) ms) (λ e. h (set-is (documents_of s) ms e))
  where
    by_test : (b : Bool) → (b ≡ true → ⊥) → cond b (Ok ms) (Err NotASet) ≡ Err NotASet
    by_test true not_so = absurd (not_so refl)
    by_test false not_so = refl
