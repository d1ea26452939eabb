-- The ranges of an event in a later document, and steps that lie apart from them.
use Rattle.std.specs.Prelude.{◌+◌, ◌<◌, ◌⊎◌, List, [], ◌∷◌, ◌++◌}
use Rattle.pm_map.specs.declared.side.Side.TheVariants.{Before, After}
use Rattle.pm_map.specs.declared.step_map.Span.{Span}
use Rattle.pm_map.specs.Moves.{moved, inverted_ranges}
use Rattle.pm_selective.specs.declared.telling.Reach.{Reach}

-- a stretch over a map: its start by `Before`, and its end by `After`
abbrev pub moved_reach : List Span → Reach → Reach
moved_reach m x = record { from = (moved m x.from Before).pos; to = (moved m x.to After).pos }

abbrev pub moved_reaches : List Span → List Reach → List Reach
moved_reaches m [] = []
moved_reaches m (x ∷ xs) = moved_reach m x ∷ moved_reaches m xs

-- from where each range starts to where it ends
abbrev pub reaches : List Span → List Reach
reaches [] = []
reaches (r ∷ rs) = record { from = r.start; to = r.start + r.old_size } ∷ reaches rs

-- The result ranges of these maps, each moved over all maps after its own, and these stretches moved over them all.
abbrev pub event_ranges : List (List Span) → List Reach → List Reach
event_ranges [] xs = xs
event_ranges (m ∷ ms) xs = event_ranges ms (moved_reaches m xs ++ reaches (inverted_ranges m))

-- At least one token stands between a range and a stretch.
abbrev pub IsBeyond : Span → Reach → Type 0
IsBeyond r x = (r.start + r.old_size < x.from) ⊎ (x.to < r.start)

abbrev pub IsBeyondAll : Span → List Reach → Type 0
IsBeyondAll r [] = Unit {0}
IsBeyondAll r (x ∷ xs) = IsBeyond r x × IsBeyondAll r xs

-- between each range of a map and each of these stretches
abbrev pub IsApart : List Span → List Reach → Type 0
IsApart [] xs = Unit {0}
IsApart (r ∷ rs) xs = IsBeyondAll r xs × IsApart rs xs

-- Each of these maps lies apart from the stretches, moved over the maps before it.
abbrev pub AreApartFrom : List Reach → List (List Span) → Type 0
AreApartFrom xs [] = Unit {0}
AreApartFrom xs (l ∷ ls) = IsApart l xs × AreApartFrom (moved_reaches l xs) ls

-- Each later map lies apart from the event with these maps.
abbrev pub LieApart : (event later : List (List Span)) → Type 0
LieApart event later = AreApartFrom (event_ranges event []) later

-- the inverted maps, from the latest to the first, and then these
abbrev pub backs_onto : List (List Span) → List (List Span) → List (List Span)
backs_onto [] bs = bs
backs_onto (e ∷ es) bs = backs_onto es (inverted_ranges e ∷ bs)

abbrev pub backs : List (List Span) → List (List Span)
backs es = backs_onto es []
