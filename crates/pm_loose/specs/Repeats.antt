-- Automata in which each run of texts leads where one text does.
use Rattle.std.specs.Prelude.{◌≡◌, ℕ, ◌<◌, ◌≤◌, Some, List, length, slice_index_or}
use Rattle.pm_auto.specs.declared.auto.Auto.{Auto}
use Rattle.pm_auto.specs.Walks.{target, edges_at}

-- where a text leads from the state, a further text leads again
abbrev pub Repeats : ℕ → Auto → ℕ → Type 0
Repeats text a s = (t : ℕ) → target text (edges_at a.edges s) ≡ Some t → target text (edges_at a.edges t) ≡ Some t

-- each edge of the state leads to one of the states up to n
abbrev pub LeadsUpTo : Auto → ℕ → ℕ → Type 0
LeadsUpTo a s n = (k t : ℕ) → target k (edges_at a.edges s) ≡ Some t → t ≤ n

-- up to some state no edge leads after it, and texts repeat
pub record RepeatsTexts (text : ℕ) (a : Auto) : Type 0 where
  pub last : ℕ
  pub closed : (s : ℕ) → s ≤ last → LeadsUpTo a s last
  pub repeat : (s : ℕ) → s ≤ last → Repeats text a s

-- in some state it matters whether one text stands there or two
abbrev pub CountsTexts : ℕ → Auto → Type 0
CountsTexts text a = (s : ℕ) × (Repeats text a s → ⊥)

-- that is so in one of the automata
pub record SomeCounts (text : ℕ) (autos : List Auto) : Type 0 where
  pub kind : ℕ
  pub inside : kind < length autos
  pub auto : Auto
  pub is : auto ≡ slice_index_or autos kind auto
  pub counts : CountsTexts text auto
