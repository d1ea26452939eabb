-- Ranges that put tokens in.
use Rattle.std.specs.Prelude.{◌==◌, ◌||◌, not, Bool, false, List, [], ◌∷◌, Option, Some, None}
use Rattle.pm_map.specs.declared.step_map.Span.{Span}

-- whether one of these ranges puts tokens in
abbrev pub puts_in : List Span → Bool
puts_in [] = false
puts_in (s ∷ ss) = not (s.new_size == 0) || puts_in ss

-- whether this is a range that puts tokens in
abbrev pub is_filled : Option Span → Bool
is_filled None = false
is_filled (Some s) = not (s.new_size == 0)
