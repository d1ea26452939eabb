-- Names, and texts that list names.
use Rattle.std.specs.Prelude.{ℕ, nat_le, List, length, Bool, not, ◌&&◌, codes, Option, Some, None, if◌then◌else◌}
use Rattle.std.specs.List.{list_all}
use Rattle.std.specs.Str.{bytes_eq}
use Rattle.pm_schema.specs.MarkTexts.{words}
use Rattle.pm_expr.specs.Tokens.{is_word}

-- a name has 1 to 64 ASCII letters, digits and _, and isn't _ alone
abbrev pub is_name : List ℕ → Bool
is_name w = (nat_le 1 (length w) && nat_le (length w) 64) && (list_all is_word w && not (bytes_eq w (codes "_")))

-- the names that a text lists with blanks between, if each is well-formed
abbrev pub names_in : List ℕ → Option (List (List ℕ))
names_in text = if list_all is_name (words text) then Some (words text) else None
