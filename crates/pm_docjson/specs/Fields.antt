-- The fields of a JSON object.
use Rattle.std.specs.Prelude.{ℕ, List, Option, Some, None, Result, is_some, option_and_then, if◌then◌else◌}
use Rattle.serde_json.specs.Data.{Data}
use Rattle.serde_json.specs.Find.{get, as_null, as_str}
use Rattle.pm_list.specs.Readings.{or_fault}
use Rattle.pm_docjson.specs.declared.fault.DocReadError.{DocReadError}
use Rattle.pm_docjson.specs.declared.fault.DocReadError.TheVariants.{Shape}

-- a value that is not null
abbrev pub non_null : Data → Option Data
non_null d = if is_some (as_null d) then None else Some d

-- a field that may be absent may also be null
abbrev pub field : List ℕ → Data → Option Data
field key d = option_and_then non_null (get key d)

-- a text that must be there
abbrev pub text_at : List ℕ → Data → Result (List ℕ) DocReadError
text_at key d = or_fault Shape (option_and_then as_str (get key d))
