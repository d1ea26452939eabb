-- The members of these keys and values, and the value that a tree is.
use Rattle.std.specs.Prelude.{ℕ, List, [], ◌∷◌, unwrap_or}
use Rattle.json.specs.Json.{Json}
use Rattle.serde_json.specs.Data.{Data, null, Members, no_members, member}
use Rattle.serde_json.specs.Read.{of_json}

abbrev pub members_of : List (List ℕ × Data) → Members
members_of [] = no_members
members_of (m ∷ ms) = member m.0 m.1 (members_of ms)

-- the value that a tree is, where it is one
abbrev pub data_of : Json → Data
data_of j = unwrap_or (of_json j) null
