-- Kinds of values.
use Rattle.std.specs.Prelude.{Bool, true, false, Option, Some, None}
use Rattle.pm_value.specs.Plain.{Plain, null, truth, int, text, items, fields}
use Rattle.pm_value.specs.declared.kinds.Kinds.{Kinds}

-- the value is of a kind that is named; lists and objects are of none
abbrev pub is_of : Kinds → Plain → Bool
is_of ks null = ks.null
is_of ks (truth b) = ks.boolean
is_of ks (int z) = ks.number
is_of ks (text bs) = ks.string
is_of ks (items vs) = false
is_of ks (fields ns vs) = false

-- where kinds are named, the value is of one of them
abbrev pub is_allowed : Option Kinds → Plain → Bool
is_allowed None v = true
is_allowed (Some ks) v = is_of ks v
