-- The slice that a JSON value is, or its first fault. Fields are read in the order content, openStart, openEnd.
use Rattle.std.specs.Prelude.{List, is_some, option_and_then, Result, Ok, Err, codes, ℕ, if◌then◌else◌}
use Rattle.serde_json.specs.Data.{Data, Items}
use Rattle.serde_json.specs.Find.{get, as_null, as_array}
use Rattle.pm_list.specs.Readings.{◌>>=◌, or_fault}
use Rattle.pm_tokens.specs.Slices.{Slice, is_slice}
use Rattle.pm_schema.specs.declared.spec.SchemaSpec.{SchemaSpec}
use Rattle.pm_slice.specs.Sides.{sides, no_slice, or_none}
use Rattle.pm_docjson.specs.declared.fault.DocReadError.{DocReadError}
use Rattle.pm_docjson.specs.declared.fault.DocReadError.TheVariants.{Shape, Open}
use Rattle.pm_docjson.specs.declared.leaves.LeafContent.TheVariants.{Refused}
use Rattle.pm_docjson.specs.Reading.{nodes_of}
use Rattle.pm_slicejson.specs.Numbers.{count_at}

-- a list that must be there
abbrev pub list_at : List ℕ → Data → Result Items DocReadError
list_at key d = or_fault Shape (option_and_then as_array (get key d))

-- the content with these sides, where none is deeper than the content; without tokens it is the empty slice
abbrev pub as_slice : Slice → Result Slice DocReadError
as_slice sl = if is_slice sl then Ok (or_none sl) else Err Open

-- a slice by its fields; leaf types have no content
unfoldable pub sides_of : SchemaSpec → Data → Result Slice DocReadError
sides_of s d = do
  items ← list_at (codes "content") d
  content ← nodes_of s Refused items
  open_start ← count_at (codes "openStart") d
  open_end ← count_at (codes "openEnd") d
  as_slice (sides content open_start open_end)

-- null is the empty slice
unfoldable pub slice_of : SchemaSpec → Data → Result Slice DocReadError
slice_of s d = if is_some (as_null d) then Ok no_slice else sides_of s d
