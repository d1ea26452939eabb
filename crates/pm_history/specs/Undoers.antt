-- A table of the items that were made to undo steps.
use Rattle.std.specs.Prelude.{◌≡◌, ℕ, ◌<◌, ◌%◌, ◌==◌, Bool, false, if◌then◌else◌, List, [], ◌∷◌, ◌++◌, length, slice_index_or, Option, Some, None}
use Rattle.pm_change.specs.declared.name.Name.{Name}
use Rattle.pm_history.specs.declared.item.Item.{Item}
use Rattle.pm_history.specs.declared.undoers.Undoers.{Undoers}

-- whether this is the name of a step whose serial leaves this remainder
abbrev pub leaves : ℕ → ℕ → Option Name → Bool
leaves size r None = false
leaves size r (Some n) = n.serial % size == r

-- the number of items after the first one that undoes a step whose serial leaves this remainder
abbrev pub nearest : {C : Type 0} → ℕ → ℕ → List (Item C) → Option ℕ
nearest size r [] = None
nearest size r (i ∷ is) = if leaves size r i.undoes then Some (length is) else nearest size r is

-- the same with the remainder of this name
abbrev pub nearest_for : {C : Type 0} → ℕ → Option Name → List (Item C) → Option ℕ
nearest_for size None is = None
nearest_for size (Some n) is = nearest size (n.serial % size) is

-- for each item, the last one first, the nearest one after it that undoes a step with the same remainder
abbrev pub chain : {C : Type 0} → ℕ → List (Item C) → List (Option ℕ)
chain size [] = []
chain size (i ∷ is) = chain size is ++ nearest_for size i.undoes is ∷ []

-- the table of these items
pub record IsTableOf {C : Type 0} (u : Undoers) (is : List (Item C)) : Type 0 where
  pub some : 0 < length u.nearest.items
  pub nearest_are : (r : ℕ) → r < length u.nearest.items → slice_index_or u.nearest.items r None ≡ nearest (length u.nearest.items) r is
  pub next_are : u.next.items ≡ chain (length u.nearest.items) is
