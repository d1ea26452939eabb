-- The characters of the one paragraph.
use Rattle.std.specs.Prelude.{ℕ, List, Bool, ◌&&◌, nat_le}
use Rattle.std.specs.List.{list_all}

-- a character from U+0020 to U+007E
abbrev pub is_printable : ℕ → Bool
is_printable b = nat_le 32 b && nat_le b 126

abbrev pub all_printable : List ℕ → Bool
all_printable text = list_all is_printable text
