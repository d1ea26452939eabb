-- The lines of an input, and the JSON value of a line.
use Rattle.std.specs.Prelude.{ℕ, ◌==◌, List, [], ◌∷◌, length, Option, None, Result, Err, nat_lt, if◌then◌else◌}
use Rattle.std.specs.Str.{is_utf8}
use Rattle.serde_json.specs.Data.{Data}
use Rattle.serde_json.specs.Read.{read}
use Rattle.pm_list.specs.Readings.{or_fault}
use Rattle.pm_head.specs.declared.code.Code.{Code}
use Rattle.pm_head.specs.declared.code.Code.TheVariants.{LineTooLong, NotJson}
use Rattle.pm_head.specs.declared.lines.TheConstants.{MAX_LINE}

-- a byte goes onto the first line
abbrev pub onto : ℕ → List (List ℕ) → List (List ℕ)
onto b [] = (b ∷ []) ∷ []
onto b (line ∷ rest) = (b ∷ line) ∷ rest

-- split at LF; a last piece that isn't empty is a line
unfoldable pub lines_of : List ℕ → List (List ℕ)
lines_of [] = []
lines_of (b ∷ bytes) = if b == 10 then [] ∷ lines_of bytes else onto b (lines_of bytes)

-- the JSON value of a text, where it is UTF-8 and JSON
unfoldable pub json_of : List ℕ → Option Data
json_of line = if is_utf8 line then read line else None

-- the JSON value of a line, or its code where the line is too long, or where it is not UTF-8 or no JSON
unfoldable pub json_line : List ℕ → Result Data Code
json_line line = if nat_lt MAX_LINE (length line) then Err LineTooLong else or_fault NotJson (json_of line)
