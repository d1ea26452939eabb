-- What a name stands for in a content expression.
use Rattle.std.specs.Prelude.{ℕ, ◌+◌, List, [], ◌∷◌, map, if◌then◌else◌, Option, Some, None}
use Rattle.std.specs.List.{list_any, position_from}
use Rattle.std.specs.Str.{bytes_eq}
use Rattle.pm_auto.specs.Tree.{Tree, Trees, one, choice, gathered}

-- a node type: its name, and the groups that it is in
pub record Named : Type 0 where
  pub name : List ℕ
  pub groups : List (List ℕ)

-- a choice or a sequence of one part is that part
abbrev pub joined : (Trees → Tree) → List Tree → Tree
joined f [] = f (gathered [])
joined f (t ∷ []) = t
joined f (t ∷ u ∷ ts) = f (gathered (t ∷ u ∷ ts))

-- the types of the group, in schema order, where the first one has the number i
abbrev pub members : (i : ℕ) → List Named → List ℕ → List ℕ
members i [] word = []
members i (n ∷ ns) word = if list_any (bytes_eq word) n.groups then i ∷ members (i + 1) ns word else members (i + 1) ns word

-- the choice of these types, if there is one
abbrev pub choice_of : List ℕ → Option Tree
choice_of [] = None
choice_of (k ∷ ks) = Some (joined choice (map one (k ∷ ks)))

-- the type, or else the choice of the group
abbrev pub type_or_group : List Named → List ℕ → Option ℕ → Option Tree
type_or_group types word (Some i) = Some (one i)
type_or_group types word None = choice_of (members 0 types word)

-- the first type of the name, or else the choice of all types of the group in schema order
abbrev pub stands_for : List Named → List ℕ → Option Tree
stands_for types word = type_or_group types word (position_from (λ n. bytes_eq word n.name) 0 types)
