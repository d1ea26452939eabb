-- Steps that are written are read again.
use Rattle.std.proofs.Common.{◌≡◌, ◌==◌, ◌<◌, ◌≤◌, ℕ, List, ◌^◌, Bool, true, false, cond, refl, ap, sym, subst, ◌∙◌, nat_lt, arith}
use Rattle.std.proofs.lemmas.Bool.Decides.{nat_tests}
use Rattle.std.specs.Prelude.{None, Result, Ok, Err, IfOk, OnOk, codes}
use Rattle.serde_json.specs.Data.{Data, null, string}
use Rattle.pm_value.specs.Plain.{Plain, depth}
use Rattle.pm_value.specs.Reading.{value_of}
use Rattle.pm_value.specs.Writing.{written}
use Rattle.pm_marks.specs.declared.mark.Mark.{Mark}
use Rattle.pm_tokens.specs.Tokens.{Attrs}
use Rattle.pm_tokens.specs.Slices.{Slice, slice_size}
use Rattle.pm_schema.specs.declared.spec.SchemaSpec.{SchemaSpec}
use Rattle.pm_docjson.specs.Fields.{non_null}
use Rattle.pm_docjson.specs.Reading.{mark_of}
use Rattle.pm_docjson.specs.Writing.{mark_written}
use Rattle.pm_docjson.specs.Writable.{mark_fits, AreWritable}
use Rattle.pm_slice.specs.Sides.{no_slice, or_none}
use Rattle.pm_slicejson.specs.Reading.{slice_of}
use Rattle.pm_slicejson.specs.Writing.{sides_written, slice_written}
use Rattle.pm_meaning.specs.Steps.{Step, Replace, ReplaceAround, AddMark, RemoveMark, AddNodeMark, RemoveNodeMark, Attr, DocAttr}
use Rattle.pm_step.specs.declared.marking.Marking.{Marking}
use Rattle.pm_step.specs.declared.marking.Marking.TheVariants.{Add, Remove}
use Rattle.pm_step.specs.Steps.{mark_in, node_step, range_step}
use Rattle.pm_stepjson.specs.Members.{SliceAgain}
use Rattle.pm_stepjson.specs.Fields.{as_slice, slice_in, count}
use Rattle.pm_stepjson.specs.Replace.{replace_from, replace_written}
use Rattle.pm_stepjson.specs.Around.{around_from, around_written}
use Rattle.pm_stepjson.specs.Mark.{range_from, range_written}
use Rattle.pm_stepjson.specs.NodeMark.{node_from, node_written}
use Rattle.pm_stepjson.specs.Attr.{attr_from, attr_written}
use Rattle.pm_stepjson.specs.DocAttr.{doc_attr_from, doc_attr_written}
use Rattle.pm_stepjson.specs.Reading.{step_read}
use Rattle.pm_stepjson.specs.Writing.{step_written}
use Rattle.pm_stepjson.specs.Writable.{CanBeWritten, HasCounts}
use Rattle.pm_stepjson.proofs.ObjectLaws.{replace_type, replace_to, replace_slice, replace_structure, around_type, around_to, around_slice, around_structure}

small : (n : ℕ) → n < 2 ^ 32 → nat_lt 4294967295 n ≡ false
small n h = grind (arith, nat_tests)

-- ---- a slice

-- an empty slice, which is left out
pub none-again : (s : SchemaSpec) (sl : Slice) → or_none sl ≡ sl → slice_size sl ≡ 0 → SliceAgain s sl
none-again s sl one none = by_size (slice_size sl == 0) refl (empty (slice_size sl) none)
  where
    empty : (n : ℕ) → n ≡ 0 → (n == 0) ≡ true
    empty n h = grind (arith, nat_tests)

    by_size : (b : Bool) → (slice_size sl == 0) ≡ b → b ≡ true → SliceAgain s sl
    by_size b e h =
        let here : (slice_size sl == 0) ≡ true = e ∙ h in
        let same : no_slice ≡ sl = sym (ap (λ c. cond c no_slice sl) here) ∙ one in
        ap (λ c. slice_in s (cond c None (non_null (slice_written s sl)))) here ∙ ap Ok same

-- any other slice
pub some-again : (s : SchemaSpec) (sl : Slice) → (slice_size sl ≡ 0 → ⊥) → slice_of s (slice_written s sl) ≡ Ok sl → SliceAgain s sl
some-again s sl some again =
    let here : (slice_size sl == 0) ≡ false = filled (slice_size sl) some in
    let wrote : slice_written s sl ≡ sides_written s sl = ap (λ c. cond c null (sides_written s sl)) here in
    let read : slice_of s (sides_written s sl) ≡ Ok sl = ap (slice_of s) (sym wrote) ∙ again in
    ap (λ c. slice_in s (cond c None (non_null (slice_written s sl)))) here
    ∙ (ap (λ w. slice_in s (non_null w)) wrote ∙ ap as_slice read)
  where
    filled : (n : ℕ) → (n ≡ 0 → ⊥) → (n == 0) ≡ false
    filled n h = grind (arith, nat_tests)

-- ---- steps

replace-read : (s : SchemaSpec) (from to : ℕ) (sl : Slice) (structure : Bool) → from < 2 ^ 32 → to < 2 ^ 32 → SliceAgain s sl
    → step_read s (replace_written s from to sl structure) ≡ Ok (Replace from to sl structure)
unfolding step_read replace_from
replace-read s from to sl structure hf ht again =
    let b = (slice_size sl == 0) in
    let w = slice_written s sl in
    let e = string (codes "replace") in
    rw (
      replace_type b structure w e (count from) (count to),
      small from hf,
      replace_to b structure w e (count from) (count to),
      small to ht,
      replace_slice b structure w e (count from) (count to),
      again,
      replace_structure b structure w e (count from) (count to),
    ) refl

around-read : (s : SchemaSpec) (from to gap_from gap_to : ℕ) (sl : Slice) (insert : ℕ) (structure : Bool) → from < 2 ^ 32 → to < 2 ^ 32 → gap_from < 2 ^ 32 → gap_to < 2 ^ 32 → insert < 2 ^ 32 → SliceAgain s sl
    → step_read s (around_written s from to gap_from gap_to sl insert structure) ≡ Ok (ReplaceAround from to gap_from gap_to sl insert structure)
unfolding step_read around_from
around-read s from to gap_from gap_to sl insert structure hf ht hg hh hi again =
    let b = (slice_size sl == 0) in
    let w = slice_written s sl in
    let e = string (codes "replaceAround") in
    rw (
      around_type b structure w e (count from) (count to) (count gap_from) (count gap_to) (count insert),
      small from hf,
      around_to b structure w e (count from) (count to) (count gap_from) (count gap_to) (count insert),
      small to ht,
      small gap_from hg,
      small gap_to hh,
      small insert hi,
      around_slice b structure w e (count from) (count to) (count gap_from) (count gap_to) (count insert),
      again,
      around_structure b structure w e (count from) (count to) (count gap_from) (count gap_to) (count insert),
    ) refl

add_mark-read : (s : SchemaSpec) (from to : ℕ) (mark : Mark Attrs) → from < 2 ^ 32 → to < 2 ^ 32 → mark_of s (mark_written s mark) ≡ Ok mark
    → step_read s (range_written s (codes "addMark") from to mark) ≡ Ok (AddMark from to mark)
unfolding step_read range_from
add_mark-read s from to mark hf ht again = rw (small from hf, small to ht, again) refl

remove_mark-read : (s : SchemaSpec) (from to : ℕ) (mark : Mark Attrs) → from < 2 ^ 32 → to < 2 ^ 32 → mark_of s (mark_written s mark) ≡ Ok mark
    → step_read s (range_written s (codes "removeMark") from to mark) ≡ Ok (RemoveMark from to mark)
unfolding step_read range_from
remove_mark-read s from to mark hf ht again = rw (small from hf, small to ht, again) refl

add_node_mark-read : (s : SchemaSpec) (pos : ℕ) (mark : Mark Attrs) → pos < 2 ^ 32 → mark_of s (mark_written s mark) ≡ Ok mark
    → step_read s (node_written s (codes "addNodeMark") pos mark) ≡ Ok (AddNodeMark pos mark)
unfolding step_read node_from
add_node_mark-read s pos mark hp again = rw (small pos hp, again) refl

remove_node_mark-read : (s : SchemaSpec) (pos : ℕ) (mark : Mark Attrs) → pos < 2 ^ 32 → mark_of s (mark_written s mark) ≡ Ok mark
    → step_read s (node_written s (codes "removeNodeMark") pos mark) ≡ Ok (RemoveNodeMark pos mark)
unfolding step_read node_from
remove_node_mark-read s pos mark hp again = rw (small pos hp, again) refl

attr-read : (s : SchemaSpec) (pos : ℕ) (name : List ℕ) (value : Plain) → pos < 2 ^ 32 → value_of (written value) ≡ Ok value
    → step_read s (attr_written pos name value) ≡ Ok (Attr pos name value)
unfolding step_read attr_from
attr-read s pos name value hp again = rw (small pos hp, again) refl

doc_attr-read : (s : SchemaSpec) (name : List ℕ) (value : Plain) → value_of (written value) ≡ Ok value
    → step_read s (doc_attr_written name value) ≡ Ok (DocAttr name value)
unfolding step_read doc_attr_from
doc_attr-read s name value again = rw again refl

-- what is written of a step is read as the step, where it can be written
abbrev pub IsReadAgain : SchemaSpec → Step → Type 0
IsReadAgain s step = CanBeWritten s step → HasCounts step → step_read s (step_written s step) ≡ Ok step

pub replace-again : (s : SchemaSpec) (from to : ℕ) (sl : Slice) (structure : Bool) → (AreWritable s sl.content → SliceAgain s sl) → IsReadAgain s (Replace from to sl structure)
replace-again s from to sl structure again = λ can h. replace-read s from to sl structure h.0 h.1 (again can)

pub around-again : (s : SchemaSpec) (from to gap_from gap_to : ℕ) (sl : Slice) (insert : ℕ) (structure : Bool) → (AreWritable s sl.content → SliceAgain s sl) → IsReadAgain s (ReplaceAround from to gap_from gap_to sl insert structure)
around-again s from to gap_from gap_to sl insert structure again = λ can h. around-read s from to gap_from gap_to sl insert structure h.0 h.1 h.2 h.3 h.4 (again can)

-- the mark of a step is read as the mark, where it can be written
abbrev pub IsMarkAgain : SchemaSpec → Mark Attrs → Type 0
IsMarkAgain s mark = mark_fits s mark ≡ true → mark_of s (mark_written s mark) ≡ Ok mark

pub range-again : (s : SchemaSpec) (m : Marking) (from to : ℕ) → IsMarkAgain s (mark_in m) → IsReadAgain s (range_step m from to)
range-again s (Add mark) from to again = λ can h. add_mark-read s from to mark h.0 h.1 (again can)
range-again s (Remove mark) from to again = λ can h. remove_mark-read s from to mark h.0 h.1 (again can)

pub node-again : (s : SchemaSpec) (m : Marking) (pos : ℕ) → IsMarkAgain s (mark_in m) → IsReadAgain s (node_step m pos)
node-again s (Add mark) pos again = λ can h. add_node_mark-read s pos mark h (again can)
node-again s (Remove mark) pos again = λ can h. remove_node_mark-read s pos mark h (again can)

-- the value of a step is read as the value, where it can be written
abbrev pub IsValueAgain : Plain → Type 0
IsValueAgain value = depth value ≤ 4 → value_of (written value) ≡ Ok value

pub attr-again : (s : SchemaSpec) (pos : ℕ) (name : List ℕ) (value : Plain) → IsValueAgain value → IsReadAgain s (Attr pos name value)
attr-again s pos name value again = λ can h. attr-read s pos name value h (again can)

pub doc_attr-again : (s : SchemaSpec) (name : List ℕ) (value : Plain) → IsValueAgain value → IsReadAgain s (DocAttr name value)
doc_attr-again s name value again = λ can h. doc_attr-read s name value (again can)

-- what a call wrote of a step is read as the step
module _ (s : SchemaSpec) {J E Again : Type 0} (view : J → Data) where
  pub reads-again : (step here : Step) (r : Result J E) → here ≡ step → IfOk r (λ j. view j ≡ step_written s step) → OnOk r Again → (Again → IsReadAgain s step)
      → IfOk r (λ j. CanBeWritten s here → HasCounts here → step_read s (view j) ≡ Ok here)
  reads-again step here (Ok j) is wrote again read =
      subst (λ (x : Step). CanBeWritten s x → HasCounts x → step_read s (view j) ≡ Ok x) (sym is)
      (λ can counts. ap (step_read s) wrote ∙ read again can counts)
  reads-again step here (Err e) is wrote again read = tt
