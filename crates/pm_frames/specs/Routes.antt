-- A mapping by one of two ways.
use Rattle.std.specs.Prelude.{ℕ, List}
use Rattle.pm_map.specs.declared.mapping.Mirrored.{Mirrored}
use Rattle.pm_map.specs.Positions.{IsItself}
use Rattle.pm_frames.specs.declared.route.Route.{Route}
use Rattle.pm_frames.specs.declared.route.Route.TheVariants.{Maps, Composed}
use Rattle.pm_frames.specs.Stacks.{Leads}

-- A route stands for the mappings for which its own mapping stands, or its frames.
abbrev pub Guides : Route → List Mirrored → ℕ → ℕ → Type 0
Guides (Maps maps) = IsItself maps
Guides (Composed frames) = Leads frames
