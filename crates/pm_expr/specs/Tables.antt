-- The tables of the code, as the definitions see them.
use Rattle.std.specs.Prelude.{ℕ, List, map, String, string_bytes}
use Rattle.std.specs.declared.alloc.Global.{Global}
use Rattle.pm_expr.specs.declared.names.NameGroups.{NameGroups}
use Rattle.pm_expr.specs.Names.{Named}

-- the bytes of each text
abbrev pub texts : List (String Global) → List (List ℕ)
texts items = map (λ s. string_bytes s) items

abbrev pub named : NameGroups → Named
named n = record { name = string_bytes n.name; groups = texts n.groups.items }
