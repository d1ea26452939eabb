-- The IDs of clients in a line that opens a document: a list, in the order in which they came, none of them twice.
use Rattle.std.specs.Prelude.{ℕ, nat_lt, List, [], ◌∷◌, ◌++◌, length, codes, Option, Some, None, Result, Ok, Err, if◌then◌else◌}
use Rattle.std.specs.List.{list_any}
use Rattle.std.specs.Str.{bytes_eq}
use Rattle.serde_json.specs.Data.{Data, Items, no_items, item}
use Rattle.serde_json.specs.Find.{as_array}
use Rattle.pm_list.specs.Readings.{◌>>=◌, or_fault}
use Rattle.pm_docjson.specs.Fields.{field}
use Rattle.pm_head.specs.declared.code.Code.{Code}
use Rattle.pm_head.specs.declared.code.Code.TheVariants.{WrongShape, BadClients, BadRooms}
use Rattle.pm_talk.specs.Fields.{id_from}
use Rattle.pm_order.specs.declared.clients.TheConstants.{MAX_IDS}

-- the IDs and one more, which is not among them
abbrev pub with_new : List (List ℕ) → List ℕ → Result (List (List ℕ)) Code
with_new ids id =
    if list_any (bytes_eq id) ids then Err BadRooms
    else (if nat_lt (length ids) MAX_IDS then Ok (ids ++ id ∷ []) else Err BadClients)

-- the IDs, and then those that the values are, from the front
unfoldable pub id_list : List (List ℕ) → Items → Result (List (List ℕ)) Code
id_list ids no_items = Ok ids
id_list ids (item d ds) = do
  id ← id_from d
  more ← with_new ids id
  id_list more ds

-- none where nothing is said
abbrev pub ids_of : Option Data → Result (List (List ℕ)) Code
ids_of None = Ok []
ids_of (Some d) = or_fault WrongShape (as_array d) >>= id_list []

abbrev pub ids_in : Data → Result (List (List ℕ)) Code
ids_in d = ids_of (field (codes "clientIDs") d)
