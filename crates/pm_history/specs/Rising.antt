-- Items whose serials rise.
use Rattle.std.specs.Prelude.{ℕ, suc, ◌<◌, List, [], ◌∷◌, Option, Some, None}
use Rattle.std.specs.List.{AllByRecursion as Each}
use Rattle.pm_change.specs.declared.name.Name.{Name}
use Rattle.pm_history.specs.declared.item.Item.{Item}

-- Names by their serials. That of another client's step comes first.
abbrev pub rank : Option Name → ℕ
rank None = 0
rank (Some n) = suc n.serial

-- each item comes before those after it
abbrev pub Rise : {C : Type 0} → List (Item C) → Type 0
Rise [] = Unit {0}
Rise (i ∷ is) = Each (λ j. rank i.name < rank j.name) is × Rise is
