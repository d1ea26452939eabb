-- The places of an expression as rows of a table, numbered from the left.
use Rattle.std.specs.Prelude.{ℕ, ◌+◌, List, [], ◌∷◌, ◌++◌, map, Bool, true, false, ◌&&◌, ◌||◌, cond}
use Rattle.pm_auto.specs.declared.places.Row.{Row}
use Rattle.pm_auto.specs.declared.places.Part.{Part}
use Rattle.pm_auto.specs.Core.{Core, Never, Empty, One, Alt, Cat, Loop, nullable, when}

-- how many places an expression has
abbrev pub width : Core → ℕ
width Never = 0
width Empty = 0
width (One k) = 1
width (Alt a b) = width a + width b
width (Cat a b) = width a + width b
width (Loop a) = width a

-- the places that may come first, where the first of all has the number n
abbrev pub firsts : ℕ → Core → List ℕ
firsts n Never = []
firsts n Empty = []
firsts n (One k) = n ∷ []
firsts n (Alt a b) = firsts n a ++ firsts (n + width a) b
firsts n (Cat a b) = firsts n a ++ when (nullable a) (firsts (n + width a) b)
firsts n (Loop a) = firsts n a

-- a row whose content may go on with further places
abbrev pub onward : List ℕ → Bool → Row → Row
onward fs end r = record { kind = r.kind; follow = r.follow ++ when r.ends fs; ends = r.ends && end }

-- a row whose content may begin again
abbrev pub again : List ℕ → Row → Row
again fs r = record { kind = r.kind; follow = r.follow ++ when r.ends fs; ends = r.ends }

-- the row of each place, from the number n on
abbrev pub rows : ℕ → Core → List Row
rows n Never = []
rows n Empty = []
rows n (One k) = record { kind = k; follow = []; ends = true } ∷ []
rows n (Alt a b) = rows n a ++ rows (n + width a) b
rows n (Cat a b) = map (onward (firsts (n + width a) b) (nullable b)) (rows n a) ++ rows (n + width a) b
rows n (Loop a) = map (again (firsts n a)) (rows n a)

-- how many places several expressions have together
abbrev pub widths : List Core → ℕ
widths [] = 0
widths (e ∷ es) = width e + widths es

-- the places of an expression whose first place has the number n
abbrev pub part : ℕ → Core → Part
part n e = record { rows = rows n e; first = firsts n e; may_be_empty = nullable e }

-- one part or the other
abbrev pub one_or : Part → Part → Part
one_or a b = record { rows = a.rows ++ b.rows; first = a.first ++ b.first; may_be_empty = a.may_be_empty || b.may_be_empty }

-- a part without places and without a list
abbrev pub no_part : Part
no_part = record { rows = []; first = []; may_be_empty = false }

-- the list has an item
abbrev pub some : List ℕ → Bool
some [] = false
some (n ∷ ns) = true

-- a list leads through the part, where each place of it leads to its end
abbrev pub passes : Part → Bool
passes p = p.may_be_empty || some p.first

-- one part and then the other, where lists lead through both
abbrev pub both_parts : Part → Part → Part
both_parts a b = record { rows = map (onward b.first b.may_be_empty) a.rows ++ b.rows; first = a.first ++ when a.may_be_empty b.first; may_be_empty = a.may_be_empty && b.may_be_empty }

-- one part and then the other; nothing where no list leads through one of them
abbrev pub one_then : Part → Part → Part
one_then a b = cond (passes a && passes b) (both_parts a b) no_part

-- a part once or more often
abbrev pub repeated : Part → Part
repeated a = record { rows = map (again a.first) a.rows; first = a.first; may_be_empty = a.may_be_empty }
