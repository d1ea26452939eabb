-- For private clauses: members that are put in, and what is found among them.
use Rattle.std.specs.Prelude.{◌≡◌, Bool, true, false, ◌==◌, codes, Option, None, Ok, if◌then◌else◌}
use Rattle.serde_json.specs.Data.{Data, boolean, Members, put}
use Rattle.pm_tokens.specs.Slices.{Slice, slice_size}
use Rattle.pm_schema.specs.declared.spec.SchemaSpec.{SchemaSpec}
use Rattle.pm_docjson.specs.Fields.{non_null}
use Rattle.pm_slicejson.specs.Writing.{slice_written}
use Rattle.pm_stepjson.specs.Fields.{slice_in}

-- a flag, put in where it is true
abbrev pub put_structure : Bool → Members → Members
put_structure true ms = put (codes "structure") (boolean true) ms
put_structure false ms = ms

-- a slice, put in where it is not empty
abbrev pub put_slice : SchemaSpec → Slice → Members → Members
put_slice s sl ms = if slice_size sl == 0 then ms else put (codes "slice") (slice_written s sl) ms

-- what is found at `slice`
abbrev pub slice_field : SchemaSpec → Slice → Option Data
slice_field s sl = if slice_size sl == 0 then None else non_null (slice_written s sl)

-- the slice that is found is the slice that was written
abbrev pub SliceAgain : SchemaSpec → Slice → Type 0
SliceAgain s sl = slice_in s (slice_field s sl) ≡ Ok sl
