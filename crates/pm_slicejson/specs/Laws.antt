-- What the law of reading says.
use Rattle.std.specs.Prelude.{◌≡◌, Ok}
use Rattle.serde_json.specs.Data.{Data}
use Rattle.pm_tokens.specs.Slices.{Slice}
use Rattle.pm_schema.specs.declared.spec.SchemaSpec.{SchemaSpec}
use Rattle.pm_docjson.specs.Writable.{AreWritable}
use Rattle.pm_slicejson.specs.Reading.{slice_of}

-- the content of the slice that the value is can be written
abbrev pub ReadSliceIsWritable : SchemaSpec → Data → Type 0
ReadSliceIsWritable s d = (sl : Slice) → slice_of s d ≡ Ok sl → AreWritable s sl.content
