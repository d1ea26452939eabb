-- The fields of steps: how they are read, and how they are written.
use Rattle.std.specs.Prelude.{ℕ, Bool, true, false, ◌==◌, List, codes, Option, Some, None, option_and_then, Result, Ok, Err, if◌then◌else◌}
use Rattle.serde_json.specs.Data.{Data, boolean, number, unsigned, string, Members, no_members, member}
use Rattle.serde_json.specs.Find.{get, as_bool, as_str}
use Rattle.pm_list.specs.Readings.{◌>>=◌, or_fault}
use Rattle.pm_value.specs.Plain.{Plain}
use Rattle.pm_value.specs.Reading.{value_of}
use Rattle.pm_value.specs.declared.fault.ValueError.{ValueError}
use Rattle.pm_marks.specs.declared.mark.Mark.{Mark}
use Rattle.pm_tokens.specs.Tokens.{Attrs}
use Rattle.pm_tokens.specs.Slices as slices
use Rattle.pm_tokens.specs.Slices.{slice_size}
use Rattle.pm_schema.specs.declared.spec.SchemaSpec.{SchemaSpec}
use Rattle.pm_docjson.specs.declared.fault.DocReadError.{DocReadError}
use Rattle.pm_docjson.specs.Fields.{field}
use Rattle.pm_docjson.specs.Reading.{mark_of}
use Rattle.pm_slice.specs.Sides.{no_slice}
use Rattle.pm_slicejson.specs.Numbers.{as_count}
use Rattle.pm_slicejson.specs.Reading.{slice_of}
use Rattle.pm_slicejson.specs.Writing.{slice_written}
use Rattle.pm_stepjson.specs.declared.fault.StepReadError.{StepReadError}
use Rattle.pm_stepjson.specs.declared.fault.StepReadError.TheVariants.{Shape, Slice as OfSlice, Mark as OfMark, Value as OfValue}

-- ---- read

-- a position or another whole number from 0 to 4,294,967,295, which must be there
abbrev pub number_at : List ℕ → Data → Result ℕ StepReadError
number_at key d = or_fault Shape (option_and_then as_count (get key d))

abbrev pub text_at : List ℕ → Data → Result (List ℕ) StepReadError
text_at key d = or_fault Shape (option_and_then as_str (get key d))

-- a truth value, which is false where it is absent
abbrev pub flag_of : Option Data → Result Bool StepReadError
flag_of None = Ok false
flag_of (Some d) = or_fault Shape (as_bool d)

abbrev pub structure_at : Data → Result Bool StepReadError
structure_at d = flag_of (field (codes "structure") d)

-- a fault of a slice, of a mark, and of a value
abbrev pub as_slice : {A : Type 0} → Result A DocReadError → Result A StepReadError
as_slice (Ok v) = Ok v
as_slice (Err e) = Err (OfSlice e)

abbrev pub as_mark : {A : Type 0} → Result A DocReadError → Result A StepReadError
as_mark (Ok v) = Ok v
as_mark (Err e) = Err (OfMark e)

abbrev pub as_value : {A : Type 0} → Result A ValueError → Result A StepReadError
as_value (Ok v) = Ok v
as_value (Err e) = Err (OfValue e)

-- a value, which must be there; null is one
abbrev pub value_at : Data → Result Plain StepReadError
value_at d = or_fault Shape (get (codes "value") d) >>= (λ v. as_value (value_of v))

-- ---- written

-- a whole number
abbrev pub count : ℕ → Data
count n = number (unsigned n)

-- the name of the kind before other members
abbrev pub typed : List ℕ → Members → Members
typed name ms = member (codes "stepType") (string name) ms

-- a flag before other members, where it is true
abbrev pub with_structure : Bool → Members → Members
with_structure true ms = member (codes "structure") (boolean true) ms
with_structure false ms = ms

module _ (s : SchemaSpec) where
  -- a slice, which is the empty one where it is absent
  abbrev pub slice_in : Option Data → Result slices.Slice StepReadError
  slice_in None = Ok no_slice
  slice_in (Some d) = as_slice (slice_of s d)

  abbrev pub slice_at : Data → Result slices.Slice StepReadError
  slice_at d = slice_in (field (codes "slice") d)

  -- a mark, which must be there
  abbrev pub mark_at : Data → Result (Mark Attrs) StepReadError
  mark_at d = or_fault Shape (get (codes "mark") d) >>= (λ m. as_mark (mark_of s m))

  -- a slice before other members, where it is not empty
  abbrev pub with_slice : slices.Slice → Members → Members
  with_slice sl ms = if slice_size sl == 0 then ms else member (codes "slice") (slice_written s sl) ms

  -- what is replaced by a slice: the members from `slice` to `to`
  abbrev pub replaced : List ℕ → ℕ → slices.Slice → Bool → Members
  replaced name to sl structure = with_slice sl (typed name (with_structure structure (member (codes "to") (count to) no_members)))
