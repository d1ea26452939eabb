-- Tokens with other marks.
use Rattle.std.specs.Prelude.{◌≡◌}
use Rattle.std.proofs.Common.{refl}
use Rattle.pm_tokens.specs.Tokens.{Marks, Token, Open, Close, Leaf, CodeUnit, marks_of}

-- the token with these marks
abbrev pub set_marks : Marks → Token → Token
set_marks ms (Open k a m) = Open k a ms
set_marks ms Close = Close
set_marks ms (Leaf k a m) = Leaf k a ms
set_marks ms (CodeUnit u m) = CodeUnit u ms

pub set-own : (t : Token) → set_marks (marks_of t) t ≡ t
set-own (Open k a m) = refl
set-own Close = refl
set-own (Leaf k a m) = refl
set-own (CodeUnit u m) = refl
