-- Whether the items tell that the later steps lie apart from an event, as a test.
use Rattle.std.specs.Prelude.{ℕ, zero, suc, ◌+◌, ◌≤◌, ◌<◌, ◌^◌, Bool, true, false, ◌&&◌, ◌||◌, if◌then◌else◌, nat_lt, List, [], ◌∷◌, ◌++◌, length, Some}
use Rattle.pm_map.specs.declared.side.Side.TheVariants.{Before, After}
use Rattle.pm_map.specs.declared.step_map.Span.{Span}
use Rattle.pm_map.specs.Moves.{moved, inverted_ranges}
use Rattle.pm_map.specs.Fits.{FitsSizes}
use Rattle.pm_change.specs.declared.name.Name.{Name}
use Rattle.pm_history.specs.declared.item.Item.{Item}
use Rattle.pm_history.specs.Items.{one_step}
use Rattle.pm_selective.specs.declared.telling.Reach.{Reach}
use Rattle.pm_selective.specs.Apart.{moved_reaches, reaches}
use Rattle.pm_selective.specs.Told.{item_maps}

abbrev pub is_beyond : Span → Reach → Bool
is_beyond r x = nat_lt (r.start + r.old_size) x.from || nat_lt x.to r.start

abbrev pub beyond_all : Span → List Reach → Bool
beyond_all r [] = true
beyond_all r (x ∷ xs) = is_beyond r x && beyond_all r xs

abbrev pub apart_from : List Span → List Reach → Bool
apart_from [] xs = true
apart_from (r ∷ rs) xs = beyond_all r xs && apart_from rs xs

-- the map has a range, and no two of them touch
abbrev pub is_splice_map : List Span → Bool
is_splice_map [] = false
is_splice_map (r ∷ []) = true
is_splice_map (r ∷ s ∷ rs) = nat_lt (r.start + r.old_size) s.start && is_splice_map (s ∷ rs)

module _ {C : Type 0} where
  abbrev pub all_splices : List (Item C) → Bool
  all_splices [] = true
  all_splices (i ∷ is) = is_splice_map i.map && all_splices is

  -- The first items, as many as the number says, are those of the event: their ranges join the stretches. Each later item is
  -- apart from the stretches at its turn.
  abbrev pub apart_behind : ℕ → List Reach → List (Item C) → Bool
  apart_behind k xs [] = true
  apart_behind zero xs (i ∷ is) = apart_from i.map xs && apart_behind zero (moved_reaches i.map xs) is
  apart_behind (suc k) xs (i ∷ is) = apart_behind k (moved_reaches i.map xs ++ reaches (inverted_ranges i.map)) is

  -- the first items have these names, in order
  abbrev pub are_named : List Name → List (Item C) → Bool
  are_named [] is = true
  are_named (n ∷ ns) [] = false
  are_named (n ∷ ns) (i ∷ is) = one_step (Some n) i.name && are_named ns is

  -- the items from the first one of this name on
  abbrev pub from_name : Name → List (Item C) → List (Item C)
  from_name n [] = []
  from_name n (i ∷ is) = if one_step (Some n) i.name then i ∷ is else from_name n is

  abbrev pub tells_from : List Name → List (Item C) → Bool
  tells_from ns is = are_named ns is && (all_splices is && apart_behind (length ns) [] is)

  abbrev pub tells : List Name → List (Item C) → Bool
  tells [] is = false
  tells (n ∷ ns) is = tells_from (n ∷ ns) (from_name n is)

-- the maps lead from a document of this size to others, all smaller than 2^32
abbrev pub FitChain : List (List Span) → ℕ → Type 0
FitChain [] n = n < 2 ^ 32
FitChain (m ∷ ms) n = (n < 2 ^ 32) × (k : ℕ) × (FitsSizes m n k × FitChain ms k)

abbrev pub FitItems : {C : Type 0} → List (Item C) → Type 0
FitItems is = (n : ℕ) × FitChain (item_maps is) n

-- the stretches go by a map to positions below 2^64
abbrev pub HasRoomAt : List Span → Reach → Type 0
HasRoomAt m x = ((moved m x.from Before).pos < 2 ^ 64) × ((moved m x.to After).pos < 2 ^ 64)

abbrev pub HasRoomAll : List Span → List Reach → Type 0
HasRoomAll m [] = Unit {0}
HasRoomAll m (x ∷ xs) = HasRoomAt m x × HasRoomAll m xs

-- the stretches end within a document of this size
abbrev pub EndWithin : List Reach → ℕ → Type 0
EndWithin [] n = Unit {0}
EndWithin (x ∷ xs) n = (x.from ≤ n) × (x.to ≤ n) × EndWithin xs n

-- the stretches lie in the document before the items
abbrev pub FitReaches : {C : Type 0} → List Reach → List (Item C) → Type 0
FitReaches xs is = (n : ℕ) × (FitChain (item_maps is) n × EndWithin xs n)
