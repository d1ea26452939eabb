-- Positions with sides: a list of lists of just two, a position and its side.
use Rattle.std.specs.Prelude.{List, [], ◌∷◌, codes, Some, Result, Ok, Err}
use Rattle.serde_json.specs.Data.{Data, Items, no_items, item}
use Rattle.serde_json.specs.Find.{get, as_array}
use Rattle.pm_list.specs.Readings.{◌>>=◌, or_fault}
use Rattle.pm_slicejson.specs.Numbers.{as_count}
use Rattle.pm_client.specs.declared.cursors.Cursor.{Cursor}
use Rattle.pm_client.specs.Cursors.{cursor}
use Rattle.pm_head.specs.declared.code.Code.{Code}
use Rattle.pm_head.specs.declared.code.Code.TheVariants.{WrongShape}
use Rattle.pm_opjson.specs.Fields.{side_of}

-- a whole number from 0 to 4,294,967,295, and 1 or -1
unfoldable pub position_from : Data → Data → Result Cursor Code
position_from p side = do
  pos ← or_fault WrongShape (as_count p)
  side ← side_of (Some side)
  Ok (cursor pos side)

-- just these two
abbrev pub pair_from : Items → Result Cursor Code
pair_from no_items = Err WrongShape
pair_from (item p no_items) = Err WrongShape
pair_from (item p (item side no_items)) = position_from p side
pair_from (item p (item side (item next more))) = Err WrongShape

abbrev pub position_of : Data → Result Cursor Code
position_of d = or_fault WrongShape (as_array d) >>= pair_from

-- the values as positions, from the front
unfoldable pub position_list : Items → Result (List Cursor) Code
position_list no_items = Ok []
position_list (item d ds) = do
  first ← position_of d
  rest ← position_list ds
  Ok (first ∷ rest)

-- the list of positions at `positions`, which may be empty
unfoldable pub positions_in : Data → Result (List Cursor) Code
positions_in d = do
  value ← or_fault WrongShape (get (codes "positions") d)
  items ← or_fault WrongShape (as_array value)
  position_list items
