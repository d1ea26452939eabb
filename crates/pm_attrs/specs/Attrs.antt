-- Which attributes are equal.
use Rattle.std.specs.Prelude.{Bool, List}
use Rattle.pm_value.specs.Plain.{Plain, plains_of}
use Rattle.pm_value.specs.Equal.{same_values}

-- the same values in the same order
abbrev pub same_attrs : List Plain → List Plain → Bool
same_attrs vs ws = same_values (plains_of vs) (plains_of ws)
