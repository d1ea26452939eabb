-- The IDs of clients. An ID's number is its place in the list of all IDs.
use Rattle.std.specs.Prelude.{ℕ, List, [], ◌∷◌, ◌++◌, length, slice_get, nat_lt, Bool, ◌||◌, is_some, unwrap_or, if◌then◌else◌}
use Rattle.pm_schema.specs.Names.{place_of}
use Rattle.pm_talk.specs.declared.ids.TheConstants.{MAX_IDS}

-- the ID with this number
abbrev pub id_at : List (List ℕ) → ℕ → List ℕ
id_at ids n = unwrap_or (slice_get ids n) []

-- the ID's number, or the number that it gets
abbrev pub number_of : List (List ℕ) → List ℕ → ℕ
number_of ids id = unwrap_or (place_of id ids) (length ids)

-- the ID is there, or there is room for one more
abbrev pub has_room : List (List ℕ) → List ℕ → Bool
has_room ids id = is_some (place_of id ids) || nat_lt (length ids) MAX_IDS

-- the IDs with this one
abbrev pub with_id : List (List ℕ) → List ℕ → List (List ℕ)
with_id ids id = if is_some (place_of id ids) then ids else ids ++ id ∷ []
