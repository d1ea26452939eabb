-- The tokens of the text of a content expression.
use Rattle.std.specs.Prelude.{ℕ, ◌+◌, ◌-◌, ◌*◌, ◌==◌, min, nat_le, List, [], ◌∷◌, ◌++◌, length, Bool, true, false, ◌&&◌, ◌||◌, if◌then◌else◌, Option, Some, None}

-- a token with the byte at which it begins
pub data Token : Type 0 where
  -- the name of a type or of a group
  name : (at : ℕ) (word : List ℕ) → Token
  -- ( and )
  bracket : (at : ℕ) → Token
  end_bracket : (at : ℕ) → Token
  -- | between alternatives
  bar : (at : ℕ) → Token
  -- the suffixes + * ?
  plus : (at : ℕ) → Token
  star : (at : ℕ) → Token
  query : (at : ℕ) → Token
  -- { and }, and between them numbers and commas
  brace : (at : ℕ) → Token
  end_brace : (at : ℕ) → Token
  number : (at : ℕ) (digits : List ℕ) → Token
  comma : (at : ℕ) → Token
  -- a character that can stand nowhere
  stray : (at : ℕ) → Token

-- where a token begins
abbrev pub place : Token → ℕ
place (name at w) = at
place (bracket at) = at
place (end_bracket at) = at
place (bar at) = at
place (plus at) = at
place (star at) = at
place (query at) = at
place (brace at) = at
place (end_brace at) = at
place (number at w) = at
place (comma at) = at
place (stray at) = at

abbrev pub between : ℕ → ℕ → ℕ → Bool
between low high b = nat_le low b && nat_le b high

abbrev pub is_digit : ℕ → Bool
is_digit b = between 48 57 b

-- an ASCII letter, a digit or _
abbrev pub is_word : ℕ → Bool
is_word b = is_digit b || (between 65 90 b || (between 97 122 b || b == 95))

-- a space, a tab, a line feed or a carriage return
abbrev pub is_blank : ℕ → Bool
is_blank b = (b == 32) || ((b == 9) || ((b == 10) || (b == 13)))

-- the byte is part of a run: of a name, or inside braces of a number
abbrev pub in_run : (inside : Bool) → ℕ → Bool
in_run true b = is_digit b
in_run false b = is_word b

-- whether what comes after the byte is inside braces
abbrev pub inside_after : (inside : Bool) → ℕ → Bool
inside_after inside b = if b == 123 then true else (if b == 125 then false else inside)

-- the token of a single character; a blank is none
abbrev pub sign : (at : ℕ) → ℕ → Option Token
sign at b =
    if is_blank b then None else (
    if b == 40 then Some (bracket at) else (
    if b == 41 then Some (end_bracket at) else (
    if b == 124 then Some (bar at) else (
    if b == 43 then Some (plus at) else (
    if b == 42 then Some (star at) else (
    if b == 63 then Some (query at) else (
    if b == 123 then Some (brace at) else (
    if b == 125 then Some (end_brace at) else (
    if b == 44 then Some (comma at) else Some (stray at))))))))))

abbrev pub run_token : (inside : Bool) → ℕ → List ℕ → Token
run_token true at run = number at run
run_token false at run = name at run

-- the token of a run that is complete, before those that follow
abbrev pub completed : (inside : Bool) (at : ℕ) (run : List ℕ) → List Token → List Token
completed inside at [] ts = ts
completed inside at (b ∷ bs) ts = run_token inside at (b ∷ bs) ∷ ts

abbrev pub onto : Option Token → List Token → List Token
onto None ts = ts
onto (Some t) ts = t ∷ ts

-- The tokens of the bytes that follow a run, which began at `at` and may be empty. A run goes on as long as it can.
-- Of a character of several bytes the first one is read first, and can stand nowhere.
abbrev pub tokens_from : (inside : Bool) (at : ℕ) (run : List ℕ) → List ℕ → List Token
tokens_from inside at run [] = completed inside at run []
tokens_from inside at run (b ∷ bytes) =
    if in_run inside b
    then tokens_from inside at (run ++ b ∷ []) bytes
    else completed inside at run (onto (sign (at + length run) b) (tokens_from (inside_after inside b) (at + length run + 1) [] bytes))

-- the tokens of a text
abbrev pub tokens : List ℕ → List Token
tokens text = tokens_from false 0 [] text

-- the number after a further digit: all numbers above 64 are refused alike, and count as 65
abbrev pub digit_more : ℕ → ℕ → ℕ
digit_more n digit = min (n * 10 + (digit - 48)) 65

abbrev pub number_from : ℕ → List ℕ → ℕ
number_from n [] = n
number_from n (d ∷ ds) = number_from (digit_more n d) ds

-- the number that the digits write, or 65 where it is greater
abbrev pub number_of : List ℕ → ℕ
number_of digits = number_from 0 digits
