-- Which clients enter on the lines of a file. Each late client has to.
use Rattle.std.specs.Prelude.{ℕ, nat_eq, Bool, false, not, ◌||◌, List, codes, Option, None, option_map, option_and_then, unwrap_or, if◌then◌else◌}
use Rattle.std.specs.Cmp.Lexicographic.{pointwise}
use Rattle.std.specs.List.{list_any, list_all}
use Rattle.serde_json.specs.Data.{Data}
use Rattle.serde_json.specs.Find.{get, as_str}
use Rattle.pm_head.specs.Lines.{json_of}
use Rattle.pm_head.specs.declared.clients.ClientEntry.{ClientEntry}

-- the text that an object has there
abbrev pub text_at : List ℕ → Data → Option (List ℕ)
text_at key d = option_and_then as_str (get key d)

-- the object has this text there
abbrev pub has_text : List ℕ → List ℕ → Data → Bool
has_text key text d = unwrap_or (option_map (λ t. pointwise nat_eq t text) (text_at key d)) false

-- Who enters by an object is the text at `c`, where `op` is "enter".
abbrev pub entrant_of : Data → Option (List ℕ)
entrant_of d = if has_text (codes "op") (codes "enter") d then text_at (codes "c") d else None

-- Who enters on a line, whatever is wrong with the line beside: it may be too long, or after the last line that may be there,
-- or its client may not be due to enter.
abbrev pub entrant_on : List ℕ → Option (List ℕ)
entrant_on line = option_and_then entrant_of (json_of line)

-- the client of this name enters on the line
abbrev pub enters_on : List ℕ → List ℕ → Bool
enters_on name line = unwrap_or (option_map (λ entrant. pointwise nat_eq entrant name) (entrant_on line)) false

-- each late client enters on one of the lines
abbrev pub all_enter : List ClientEntry → List (List ℕ) → Bool
all_enter clients lines = list_all (λ c. not c.late || list_any (enters_on c.name) lines) clients
