-- Marks that are written are read again.
use Rattle.std.proofs.Common.{◌≡◌, ◌<◌, ℕ, List, [], ◌∷◌, length, Bool, true, false, refl, ◌&&◌, nat_lt, arith}
use Rattle.std.proofs.lemmas.Bool.Decides.{nat_tests}
use Rattle.std.specs.Prelude.{Some, Ok}
use Rattle.std.specs.List.{AllByRecursion, list_all}
use Rattle.serde_json.specs.Data.{string, no_items}
use Rattle.pm_value.specs.Plain.{Plain}
use Rattle.pm_marks.specs.declared.mark.Mark.{Mark}
use Rattle.pm_tokens.specs.Tokens.{Marks}
use Rattle.pm_tokens.specs.Marks.{is_set}
use Rattle.pm_schema.specs.declared.spec.SchemaSpec.{SchemaSpec}
use Rattle.pm_schema.specs.Names.{place_of}
use Rattle.pm_schema.specs.Types.{names_of_marks, mark_at, fit_attrs}
use Rattle.pm_schema.specs.Documents.{documents_of}
use Rattle.pm_docjson.specs.Values.{keys}
use Rattle.pm_docjson.specs.Members.{attrs_field, list_field}
use Rattle.pm_docjson.specs.Reading.{attrs_read, mark_of, mark_list, marks_of}
use Rattle.pm_docjson.specs.Writing.{mark_written, marks_written}
use Rattle.pm_docjson.specs.Writable.{mark_fits}
use Rattle.pm_docjson.proofs.ObjectLaws.{type_is, attrs_is}

pub mark-again : (s : SchemaSpec) (m : Mark (List Plain)) → place_of (mark_at s m.kind).name (names_of_marks s) ≡ Some m.kind → attrs_read (mark_at s m.kind).attrs (attrs_field (keys (mark_at s m.kind).attrs) m.attrs) ≡ Ok m.attrs
    → mark_of s (mark_written s m) ≡ Ok m
unfolding mark_of
mark-again s m named attrs =
    let e = string (mark_at s m.kind).name in
    rw (type_is (keys (mark_at s m.kind).attrs) m.attrs no_items no_items e, named, attrs_is (keys (mark_at s m.kind).attrs) m.attrs no_items no_items e, attrs) refl

-- each of the marks is read again
abbrev pub MarksAgain : SchemaSpec → Marks → Type 0
MarksAgain s ms = AllByRecursion (λ m. mark_of s (mark_written s m) ≡ Ok m) ms

-- each of them that can be written is read again
abbrev pub MarksIf : SchemaSpec → Marks → Type 0
MarksIf s ms = AllByRecursion (λ m. mark_fits s m ≡ true → mark_of s (mark_written s m) ≡ Ok m) ms

pub mark_list-again : (s : SchemaSpec) (ms : Marks) → MarksAgain s ms → mark_list s (marks_written s ms) ≡ Ok ms
unfolding mark_list
mark_list-again s [] h = refl
mark_list-again s (m ∷ ms) h = rw (h.0, mark_list-again s ms h.1) refl

pub marks-again : (s : SchemaSpec) (ms : Marks) → MarksAgain s ms → is_set (documents_of s) ms ≡ true → marks_of s (list_field (marks_written s ms)) ≡ Ok ms
unfolding marks_of
marks-again s [] h set = refl
marks-again s (m ∷ ms) h set = rw (mark_list-again s (m ∷ ms) h, set) refl

-- what fits, in parts

both : (a b : Bool) → (a && b) ≡ true → (a ≡ true) × (b ≡ true)
both true b h = (refl, h)
both false b h = absurd (cc)

-- all can be written
pub marks-read : (s : SchemaSpec) (ms : Marks) → MarksIf s ms → list_all (mark_fits s) ms ≡ true → MarksAgain s ms
marks-read s [] h fit = tt
marks-read s (m ∷ ms) h fit =
    let p = both (mark_fits s m) (list_all (mark_fits s) ms) fit in
    (h.0 p.0, marks-read s ms h.1 p.1)

pub mark-inside : (s : SchemaSpec) (m : Mark (List Plain)) → mark_fits s m ≡ true → m.kind < length s.marks
mark-inside s m h = below m.kind (length s.marks) (both (nat_lt m.kind (length s.marks)) (fit_attrs (mark_at s m.kind).attrs m.attrs) h).0
  where
    below : (a b : ℕ) → nat_lt a b ≡ true → a < b
    below a b e = grind (arith, nat_tests)

pub mark-attrs : (s : SchemaSpec) (m : Mark (List Plain)) → mark_fits s m ≡ true → fit_attrs (mark_at s m.kind).attrs m.attrs ≡ true
mark-attrs s m h = (both (nat_lt m.kind (length s.marks)) (fit_attrs (mark_at s m.kind).attrs m.attrs) h).1
