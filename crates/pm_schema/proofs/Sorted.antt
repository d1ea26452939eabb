-- Short lists of attributes stand in order.
use Rattle.std.proofs.Common.{[], ◌∷◌}
use Rattle.std.specs.List.Sorted.{IsStrictlySortedBy}
use Rattle.pm_schema.specs.declared.spec.AttrSpec.{AttrSpec}
use Rattle.pm_schema.specs.AttrNames.{AreInOrder}

pub none-sorted : AreInOrder []
unfolding IsStrictlySortedBy
none-sorted = tt

pub one-sorted : (a : AttrSpec) → AreInOrder (a ∷ [])
unfolding IsStrictlySortedBy
one-sorted a = (tt, tt)

pub ruleset sorted = (none-sorted, one-sorted)
