-- Expressions that memory can hold: none has 2^63 parts or more side by side.
use Rattle.std.specs.Prelude.{ℕ, suc, ◌<◌, ◌^◌, List, [], ◌∷◌}
use Rattle.pm_auto.specs.Tree.{Tree, Trees, empty, one, choice, seq, plus, star, opt, range, none, more}
use Rattle.pm_schemajson.specs.Types.{NodeType}

-- how many there are side by side
abbrev pub parts : Trees → ℕ
parts none = 0
parts (more t ts) = suc (parts ts)

abbrev mutual
  -- no choice and no sequence in it has 2^63 parts
  pub IsNarrow : Tree → Type 0
  IsNarrow empty = Unit {0}
  IsNarrow (one k) = Unit {0}
  IsNarrow (choice ts) = (parts ts < 2 ^ 63) × AreNarrow ts
  IsNarrow (seq ts) = (parts ts < 2 ^ 63) × AreNarrow ts
  IsNarrow (plus t) = IsNarrow t
  IsNarrow (star t) = IsNarrow t
  IsNarrow (opt t) = IsNarrow t
  IsNarrow (range t n m) = IsNarrow t

  -- the same of each
  pub AreNarrow : Trees → Type 0
  AreNarrow none = Unit {0}
  AreNarrow (more t ts) = IsNarrow t × AreNarrow ts

-- the content of each type is
abbrev pub HaveNarrow : List (NodeType Tree) → Type 0
HaveNarrow [] = Unit {0}
HaveNarrow (n ∷ ns) = IsNarrow n.content × HaveNarrow ns
