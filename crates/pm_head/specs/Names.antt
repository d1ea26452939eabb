-- Names of clients and rooms.
use Rattle.std.specs.Prelude.{ℕ, nat_lt, nat_le, List, length, Bool, ◌&&◌, ◌||◌}
use Rattle.std.specs.List.{list_all}

-- a character from a to z or from 0 to 9
abbrev pub is_name_letter : ℕ → Bool
is_name_letter b = (nat_le 97 b && nat_le b 122) || (nat_le 48 b && nat_le b 57)

-- the name of a client or of a room has from 1 to 16 of them
abbrev pub is_name : List ℕ → Bool
is_name text = nat_lt 0 (length text) && (nat_le (length text) 16 && list_all is_name_letter text)
