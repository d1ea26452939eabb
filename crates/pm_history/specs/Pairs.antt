-- The maps of items one after another, and which of them undo others.
use Rattle.std.specs.Prelude.{ℕ, suc, ◌&&◌, if◌then◌else◌, List, [], ◌∷◌, Option, Some, None}
use Rattle.pm_change.specs.declared.name.Name.{Name}
use Rattle.pm_map.specs.declared.step_map.Span.{Span}
use Rattle.pm_map.specs.declared.mapping.Mirrored.{Mirrored}
use Rattle.pm_map.specs.Mirrors.{may_mirror}
use Rattle.pm_history.specs.declared.item.Item.{Item}
use Rattle.pm_history.specs.Items.{one_step}

abbrev pub one_more : Option ℕ → Option ℕ
one_more None = None
one_more (Some k) = Some (suc k)

-- How many items stand before the first one that was made to undo the step of this name, and whose map can be the mirror
-- of these ranges.
abbrev pub later_in : {C : Type 0} → Option Name → List Span → List (Item C) → Option ℕ
later_in n rs [] = None
later_in n rs (i ∷ is) = if one_step n i.undoes && may_mirror rs i.map then Some 0 else one_more (later_in n rs is)

-- The items' maps, each with its mirror: an own step's map is paired with that of the own step that was made to undo it.
abbrev pub paired : {C : Type 0} → List (Item C) → List Mirrored
paired [] = []
paired (i ∷ is) = record { map = i.map; later = later_in i.name i.map is } ∷ paired is
