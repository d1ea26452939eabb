-- Types without attributes.
use Rattle.std.proofs.Common.{◌≡◌, List, [], ◌∷◌, length, arith}
use Rattle.std.specs.List.Sorted.{IsStrictlySortedBy}
use Rattle.pm_value.specs.Kept.{InOrder}
use Rattle.pm_schema.specs.declared.spec.AttrSpec.{AttrSpec}
use Rattle.pm_docjson.specs.Values.{keys}

pub none-ordered : (attrs : List AttrSpec) → 0 ≡ length attrs → InOrder (keys attrs)
unfolding IsStrictlySortedBy
none-ordered [] h = tt
none-ordered (a ∷ attrs) h = absurd (omega arith)
