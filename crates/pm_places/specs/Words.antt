-- Place words: the lists of places that a content expression allows.
use Rattle.std.specs.Prelude.{ℕ, ◌+◌, List, [], ◌∷◌, ◌++◌, map, slice_index_or}
use Rattle.pm_auto.specs.declared.expr.Expr.{Expr}
use Rattle.pm_auto.specs.Core.{Core, Never, Empty, One, Alt, Cat, Loop, Lang}
use Rattle.pm_auto.specs.Trim.{trimmed}
use Rattle.pm_auto.specs.Table.{width}

-- the expression with places for types: each occurrence of a type has a number, from the left, and the first has n
abbrev pub numbered : ℕ → Core → Core
numbered n Never = Never
numbered n Empty = Empty
numbered n (One k) = One n
numbered n (Alt a b) = Alt (numbered n a) (numbered (n + width a) b)
numbered n (Cat a b) = Cat (numbered n a) (numbered (n + width a) b)
numbered n (Loop a) = Loop (numbered n a)

-- the list of places is a place word: it is in the language of the trimmed
-- expansion, read with places for types
abbrev pub IsPlaceWord : Expr → List ℕ → Type 0
IsPlaceWord e ps = Lang (numbered 0 (trimmed e)) ps

-- the type at each place, from the left
abbrev pub place_types : Core → List ℕ
place_types Never = []
place_types Empty = []
place_types (One k) = k ∷ []
place_types (Alt a b) = place_types a ++ place_types b
place_types (Cat a b) = place_types a ++ place_types b
place_types (Loop a) = place_types a

-- the type at a place
abbrev pub type_at : Expr → ℕ → ℕ
type_at e p = slice_index_or (place_types (trimmed e)) p 0

-- the types that the places spell
abbrev pub spelled : Expr → List ℕ → List ℕ
spelled e ps = map (type_at e) ps
