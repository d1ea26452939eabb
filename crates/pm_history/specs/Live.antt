-- A table of names.
use Rattle.std.specs.Prelude.{◌≡◌, ℕ, ◌<◌, ◌%◌, ◌==◌, nat_eq, Bool, true, if◌then◌else◌, List, [], ◌∷◌, length, slice_index_or, Option, Some, None}
use Rattle.std.specs.HashMap.{get}
use Rattle.pm_change.specs.declared.name.Name.{Name}
use Rattle.pm_history.specs.declared.live.Live.{Live}

-- the client of the first name with this serial
abbrev pub client_of : ℕ → List Name → Option ℕ
client_of s [] = None
client_of s (n ∷ ns) = if n.serial == s then Some n.client else client_of s ns

-- whether a name with this serial may stand here: no other serial's name does
abbrev pub has_room : Option Name → ℕ → Bool
has_room None s = true
has_room (Some n) s = n.serial == s

-- the client of the name that stands here, where it has this serial, or else this one
abbrev pub client_at : Option Name → ℕ → Option ℕ → Option ℕ
client_at None s o = o
client_at (Some n) s o = if n.serial == s then Some n.client else o

-- the name that stands where this serial leads
abbrev pub there : Live → ℕ → Option Name
there t s = slice_index_or t.near.items (s % length t.near.items) None

-- the table of these names
pub record IsTableOfNames (t : Live) (ns : List Name) : Type 0 where
  pub some : 0 < length t.near.items
  pub clients_are : (s : ℕ) → client_at (there t s) s (get nat_eq t.far s) ≡ client_of s ns
