-- Where an event's steps begin to stand in a timeline.
use Rattle.std.specs.Prelude.{ℕ, suc, ◌||◌, Bool, false, if◌then◌else◌, List, [], ◌∷◌, Option, Some}
use Rattle.pm_change.specs.declared.name.Name.{Name}
use Rattle.pm_history.specs.declared.item.Item.{Item}
use Rattle.pm_history.specs.Items.{one_step}

-- whether this is one of these names
abbrev pub is_named : List Name → Option Name → Bool
is_named [] o = false
is_named (n ∷ ns) o = one_step (Some n) o || is_named ns o

-- the number of items before the first one with one of these names
abbrev pub start_of : {C : Type 0} → List Name → List (Item C) → ℕ
start_of ns [] = 0
start_of ns (i ∷ is) = if is_named ns i.name then 0 else suc (start_of ns is)
