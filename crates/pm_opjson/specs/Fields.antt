-- The fields of an op line. One that is absent and must be there, and one of another kind than it must be, is of a wrong shape.
use Rattle.std.specs.Prelude.{ℕ, ℤ, pos, negsuc, ◌==◌, Bool, false, List, codes, Option, Some, None, Result, Ok, Err, option_and_then, if◌then◌else◌}
use Rattle.serde_json.specs.Data.{Data}
use Rattle.serde_json.specs.Find.{get, as_bool, as_str, as_number, as_i64}
use Rattle.pm_list.specs.Readings.{or_fault}
use Rattle.pm_map.specs.declared.side.Side.{Side}
use Rattle.pm_map.specs.declared.side.Side.TheVariants.{Before, After}
use Rattle.pm_docjson.specs.Fields.{field}
use Rattle.pm_slicejson.specs.Numbers.{as_count}
use Rattle.pm_head.specs.declared.code.Code.{Code}
use Rattle.pm_head.specs.declared.code.Code.TheVariants.{WrongShape}

-- a text
abbrev pub text_in : List ℕ → Data → Result (List ℕ) Code
text_in key d = or_fault WrongShape (option_and_then as_str (get key d))

-- a whole number from 0 to 4,294,967,295
abbrev pub number_in : List ℕ → Data → Result ℕ Code
number_in key d = or_fault WrongShape (option_and_then as_count (get key d))

-- whether an answer is lost; false where nothing is said
abbrev pub lost_of : Option Data → Result Bool Code
lost_of None = Ok false
lost_of (Some d) = or_fault WrongShape (as_bool d)

abbrev pub lost_in : Data → Result Bool Code
lost_in d = lost_of (field (codes "lost") d)

-- 1 is `After`, and -1 is `Before`
abbrev pub as_side : ℤ → Option Side
as_side (pos n) = if n == 1 then Some After else None
as_side (negsuc n) = if n == 0 then Some Before else None

-- a cursor's side; `After` where nothing is said
abbrev pub side_of : Option Data → Result Side Code
side_of None = Ok After
side_of (Some d) = or_fault WrongShape (option_and_then as_side (option_and_then as_i64 (as_number d)))

abbrev pub side_in : Data → Result Side Code
side_in d = side_of (field (codes "side") d)

-- how many nodes an edit splits or joins; 1 where nothing is said
abbrev pub depth_of : Option Data → Result ℕ Code
depth_of None = Ok 1
depth_of (Some d) = or_fault WrongShape (as_count d)

abbrev pub depth_in : Data → Result ℕ Code
depth_in d = depth_of (field (codes "depth") d)

-- an edit's event number, where one is said
abbrev pub some_count : Result ℕ Code → Result (Option ℕ) Code
some_count (Ok n) = Ok (Some n)
some_count (Err code) = Err code

abbrev pub event_of : Option Data → Result (Option ℕ) Code
event_of None = Ok None
event_of (Some d) = some_count (or_fault WrongShape (as_count d))

abbrev pub event_in : Data → Result (Option ℕ) Code
event_in d = event_of (field (codes "event") d)
