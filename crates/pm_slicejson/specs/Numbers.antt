-- Whole numbers in JSON.
use Rattle.std.specs.Prelude.{ℕ, ◌^◌, ◌-◌, nat_lt, List, Option, Some, None, Result, Ok, option_and_then, if◌then◌else◌}
use Rattle.serde_json.specs.Data.{Data}
use Rattle.serde_json.specs.Find.{as_number, as_u64}
use Rattle.pm_list.specs.Readings.{or_fault}
use Rattle.pm_docjson.specs.declared.fault.DocReadError.{DocReadError}
use Rattle.pm_docjson.specs.declared.fault.DocReadError.TheVariants.{Shape}
use Rattle.pm_docjson.specs.Fields.{field}

-- a number, if it is 4,294,967,295 at most
abbrev pub bounded_count : ℕ → Option ℕ
bounded_count n = if nat_lt (2 ^ 32 - 1) n then None else Some n

-- a whole number from 0 to 4,294,967,295
abbrev pub as_count : Data → Option ℕ
as_count d = option_and_then bounded_count (option_and_then as_u64 (as_number d))

abbrev pub count_of : Option Data → Result ℕ DocReadError
count_of None = Ok 0
count_of (Some d) = or_fault Shape (as_count d)

-- such a number that may be absent, which stands for 0
abbrev pub count_at : List ℕ → Data → Result ℕ DocReadError
count_at key d = count_of (field key d)
