-- Names of documents and schemas.
use Rattle.std.specs.Prelude.{ℕ, nat_lt, nat_le, ◌==◌, List, length, Bool, ◌&&◌, ◌||◌, Result, Ok, Err, if◌then◌else◌}
use Rattle.std.specs.List.{list_all}
use Rattle.serde_json.specs.Data.{Data}
use Rattle.pm_list.specs.Readings.{◌>>=◌}
use Rattle.pm_head.specs.declared.code.Code.{Code}
use Rattle.pm_head.specs.declared.code.Code.TheVariants.{BadRooms}
use Rattle.pm_opjson.specs.Fields.{text_in}

-- an ASCII letter, a digit, `_` or `-`
abbrev pub is_name_letter : ℕ → Bool
is_name_letter b =
    ((((nat_le 97 b && nat_le b 122) || (nat_le 65 b && nat_le b 90)) || (nat_le 48 b && nat_le b 57)) || (b == 95)) || (b == 45)

-- a name has from 1 to 64 of them
abbrev pub is_name : List ℕ → Bool
is_name text = nat_lt 0 (length text) && (nat_le (length text) 64 && list_all is_name_letter text)

-- the name at this key
unfoldable pub name_in : List ℕ → Data → Result (List ℕ) Code
name_in key d = text_in key d >>= (λ text. if is_name text then Ok text else Err BadRooms)
