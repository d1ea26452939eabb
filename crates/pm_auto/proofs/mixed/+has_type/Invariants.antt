use Rattle.std.proofs.Common.{◌≡◌, drop}
use Rattle.pm_auto.specs.Types.{types_of_list, one_is}
use Rattle.pm_auto.proofs.mixed.+has_type.Given as goal

abbrev pub invariant-one_has_type-loop-item : goal.invariant-one_has_type-loop-item
invariant-one_has_type-loop-item l = one_is l.inline l.wanted (types_of_list l.items) ≡ one_is l.inline l.wanted (types_of_list (drop l.item-index l.items))
