-- The value that a JSON value is, or its first fault: members in order, each with all that is in it before the next.
use Rattle.std.specs.Prelude.{ℕ, ℤ, pos, negsuc, ◌-◌, ◌^◌, ◌==◌, nat_lt, List, [], ◌∷◌, Option, Some, None, Result, Ok, Err, if◌then◌else◌}
use Rattle.serde_json.specs.Data.{Data, null as json_null, boolean, number, string, array, object, Items, no_items, item, Members, no_members, member}
use Rattle.serde_json.specs.Find.{as_integer}
use Rattle.pm_list.specs.Readings.{◌>>=◌}
use Rattle.pm_value.specs.Plain.{Plain, null, truth, int, text, items, plains_of, fields_of}
use Rattle.pm_value.specs.declared.fault.ValueError.{ValueError}
use Rattle.pm_value.specs.declared.fault.ValueError.TheVariants.{Float, Wide, Deep}

-- a whole number of a JSON text, which is at least the least of i64
abbrev pub int_of : Option ℤ → Result Plain ValueError
int_of None = Err Float
int_of (Some (pos n)) = if nat_lt n (2 ^ 63) then Ok (int (pos n)) else Err Wide
int_of (Some (negsuc n)) = Ok (int (negsuc n))

unfoldable mutual
  -- the value, where so many levels of lists and objects may still be entered
  pub value_at : Data → ℕ → Result Plain ValueError
  value_at json_null levels = Ok null
  value_at (boolean b) levels = Ok (truth b)
  value_at (number x) levels = int_of (as_integer x)
  value_at (string bs) levels = Ok (text bs)
  value_at (array ds) levels = if levels == 0 then Err Deep else (list_at ds (levels - 1) >>= λ vs. Ok (items (plains_of vs)))
  value_at (object ms) levels = if levels == 0 then Err Deep else (pairs_at ms (levels - 1) >>= λ fs. Ok (fields_of fs))

  pub list_at : Items → ℕ → Result (List Plain) ValueError
  list_at no_items levels = Ok []
  list_at (item d ds) levels = do
    first ← value_at d levels
    rest ← list_at ds levels
    Ok (first ∷ rest)

  pub pairs_at : Members → ℕ → Result (List (List ℕ × Plain)) ValueError
  pairs_at no_members levels = Ok []
  pairs_at (member k d ms) levels = do
    first ← value_at d levels
    rest ← pairs_at ms levels
    Ok ((k, first) ∷ rest)

-- The value of a JSON value. A fifth level is too deep.
abbrev pub value_of : Data → Result Plain ValueError
value_of d = value_at d 4
