-- How deep a text nests.
use Rattle.std.specs.Prelude.{ℕ, suc, ◌≤◌, nat_le, max, List, [], ◌∷◌, if◌then◌else◌, Option, Some, None}
use Rattle.pm_expr.specs.declared.error.ExprError.{ExprError}
use Rattle.pm_expr.specs.declared.error.ExprError.TheVariants.{Deep}
use Rattle.pm_expr.specs.Tokens.{Token, name, bracket, end_bracket, plus, star, query, brace, place}

-- the most levels that an item may have
abbrev pub max_levels : ℕ
max_levels = 500

-- The levels of items that were read. A name has none. A suffix has one more than the item it stands after. A pair of
-- brackets has one more than the deepest item inside, or those of the one item where there is no other.
pub record Levels : Type 0 where
  -- for each open bracket, the innermost first, the levels of the deepest item before it in its choice
  pub over : List (Option ℕ)
  -- the levels of the deepest item before the last one in the innermost choice; None where there is none
  pub before : Option ℕ
  -- the levels of the last item
  pub last : Option ℕ

abbrev pub levels : List (Option ℕ) → Option ℕ → Option ℕ → Levels
levels over before last = record { over = over; before = before; last = last }

-- where nothing was read
abbrev pub no_levels : Levels
no_levels = levels [] None None

-- the deeper of two, where there are two
abbrev pub deeper : Option ℕ → Option ℕ → Option ℕ
deeper None b = b
deeper (Some a) None = Some a
deeper (Some a) (Some b) = Some (max a b)

-- one level more
abbrev pub risen : Option ℕ → Option ℕ
risen None = Some 1
risen (Some n) = Some (suc n)

-- a pair of brackets around a last item, with such items before it
abbrev pub in_brackets : Option ℕ → Option ℕ → Option ℕ
in_brackets None last = last
in_brackets (Some n) last = risen (deeper (Some n) last)

abbrev pub bracket_ends : List (Option ℕ) → Option ℕ → Option ℕ → Levels
bracket_ends [] before last = levels [] None (in_brackets before last)
bracket_ends (o ∷ os) before last = levels os o (in_brackets before last)

-- the levels after a token
abbrev pub counted : Levels → Token → Levels
counted l (name at word) = levels l.over (deeper l.before l.last) (Some 0)
counted l (bracket at) = levels (deeper l.before l.last ∷ l.over) None None
counted l (end_bracket at) = bracket_ends l.over l.before l.last
counted l (plus at) = levels l.over l.before (risen l.last)
counted l (star at) = levels l.over l.before (risen l.last)
counted l (query at) = levels l.over l.before (risen l.last)
counted l (brace at) = levels l.over l.before (risen l.last)
counted l t = l

-- the levels after these tokens, with those before them
abbrev pub counted_all : Levels → List Token → Levels
counted_all l [] = l
counted_all l (t ∷ ts) = counted_all (counted l t) ts

-- the levels of these tokens
abbrev pub levels_of : List Token → Levels
levels_of ts = counted_all no_levels ts

-- a fault where an item has more levels than it may have, at its last token
abbrev pub unless_shallow : (at : ℕ) → Option ℕ → Option ExprError
unless_shallow at None = None
unless_shallow at (Some n) = if nat_le n max_levels then None else Some (Deep at)

-- the fault of an item that gets too deep by this token
abbrev pub depth_flaw : Levels → Token → Option ExprError
depth_flaw l t = unless_shallow (place t) (counted l t).last

-- the item has no more levels than it may have
abbrev pub IsShallow : Option ℕ → Type 0
IsShallow None = Unit {0}
IsShallow (Some n) = n ≤ max_levels
