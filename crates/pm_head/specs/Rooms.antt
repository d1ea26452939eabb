-- The rooms that line 1 of a file of many rooms lists, by their names.
use Rattle.std.specs.Prelude.{ℕ, nat_lt, nat_le, nat_eq, Bool, not, ◌&&◌, List, [], ◌∷◌, ◌++◌, Result, Ok, Err, if◌then◌else◌}
use Rattle.std.specs.List.{list_any}
use Rattle.std.specs.Cmp.Lexicographic.{pointwise}
use Rattle.serde_json.specs.Data.{Data, Items, no_items, item}
use Rattle.serde_json.specs.Find.{as_str, as_array}
use Rattle.pm_list.specs.Readings.{◌>>=◌, or_fault}
use Rattle.pm_head.specs.declared.code.Code.{Code}
use Rattle.pm_head.specs.declared.code.Code.TheVariants.{WrongShape, BadRooms}
use Rattle.pm_head.specs.declared.rooms.TheConstants.{MAX_ROOMS}
use Rattle.pm_head.specs.Names.{is_name}
use Rattle.pm_head.specs.Clients.{count_of}
use Rattle.pm_head.specs.Lines.{json_line}

-- it is well-formed, and no earlier room has it
abbrev pub is_new_name : List (List ℕ) → List ℕ → Bool
is_new_name earlier name = is_name name && not (list_any (λ other. pointwise nat_eq name other) earlier)

-- from 1 to 16 entries
abbrev pub few_rooms : Items → Result Items Code
few_rooms ds = if nat_lt 0 (count_of ds) && nat_le (count_of ds) MAX_ROOMS then Ok ds else Err BadRooms

-- an entry after these earlier names
abbrev pub next_room : List (List ℕ) → Data → Result (List ℕ) Code
next_room earlier d = do
  name ← or_fault WrongShape (as_str d)
  if is_new_name earlier name then Ok name else Err BadRooms

-- the entries after these earlier names, from the front
unfoldable pub rooms_from : List (List ℕ) → Items → Result (List (List ℕ)) Code
rooms_from earlier no_items = Ok []
rooms_from earlier (item d ds) = do
  name ← next_room earlier d
  rest ← rooms_from (earlier ++ name ∷ []) ds
  Ok (name ∷ rest)

-- First the value's kind counts, then the number of entries, then the entries.
unfoldable pub rooms_of : Data → Result (List (List ℕ)) Code
rooms_of d = do
  items ← or_fault WrongShape (as_array d)
  entries ← few_rooms items
  rooms_from [] entries

-- line 1 of a file of many rooms
unfoldable pub rooms_line : List ℕ → Result (List (List ℕ)) Code
rooms_line line = json_line line >>= rooms_of
