-- The ID of a client in a line. One that is absent, or is neither a text nor a whole number, is of a wrong shape; one that is too long
-- is no client's.
use Rattle.std.specs.Prelude.{ℕ, nat_lt, Bool, true, false, not, List, length, codes, Result, Ok, Err, if◌then◌else◌}
use Rattle.serde_json.specs.Data.{Data, null, boolean, number, string, array, object}
use Rattle.serde_json.specs.Find.{get, is_float}
use Rattle.serde_json.specs.Written.{compact_text}
use Rattle.pm_list.specs.Readings.{◌>>=◌, or_fault}
use Rattle.pm_head.specs.declared.code.Code.{Code}
use Rattle.pm_head.specs.declared.code.Code.TheVariants.{WrongShape, BadClients}
use Rattle.pm_talk.specs.declared.fields.TheConstants.{MAX_ID}

-- a text or a whole number may be a client's ID
abbrev pub is_id : Data → Bool
is_id null = false
is_id (boolean b) = false
is_id (number n) = not (is_float n)
is_id (string s) = true
is_id (array ds) = false
is_id (object ms) = false

-- the text of an ID, which may not be longer
abbrev pub short_id : List ℕ → Result (List ℕ) Code
short_id text = if nat_lt MAX_ID (length text) then Err BadClients else Ok text

-- An ID is kept as its JSON text, so that the text "1" and the number 1 differ.
abbrev pub id_from : Data → Result (List ℕ) Code
id_from d = if is_id d then short_id (compact_text d) else Err WrongShape

abbrev pub id_in : Data → Result (List ℕ) Code
id_in d = or_fault WrongShape (get (codes "clientID") d) >>= id_from
