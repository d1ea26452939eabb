-- Fields of lines. One that must be there and is absent, and one of another kind than it must be, is of a wrong shape.
use Rattle.std.specs.Prelude.{ℕ, List, codes, Option, Some, None, Result, Ok}
use Rattle.serde_json.specs.Data.{Data}
use Rattle.pm_list.specs.Readings.{or_fault}
use Rattle.pm_docjson.specs.Fields.{field}
use Rattle.pm_slicejson.specs.Numbers.{as_count}
use Rattle.pm_head.specs.declared.code.Code.{Code}
use Rattle.pm_head.specs.declared.code.Code.TheVariants.{WrongShape}
use Rattle.pm_opjson.specs.Fields.{event_of}

-- the version; 0 where nothing is said
abbrev pub version_of : Option Data → Result ℕ Code
version_of None = Ok 0
version_of (Some d) = or_fault WrongShape (as_count d)

abbrev pub version_in : Data → Result ℕ Code
version_in d = version_of (field (codes "version") d)

-- a number, where one is said
abbrev pub optional_in : List ℕ → Data → Result (Option ℕ) Code
optional_in key d = event_of (field key d)
