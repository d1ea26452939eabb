use Rattle.std.proofs.Common.{◌≡◌, ◌++◌}
use Rattle.pm_sized.specs.Pairs.{IsBuilt, built_pairs}
use Rattle.pm_sized.proofs.many.Many.from_vec.Given as goal

abbrev pub invariant-loop-item : goal.invariant-loop-item
invariant-loop-item g l =
    let it = goal.iterator-loop-item g in
    it.can_next l.item-iterator × it.is_finite l.item-iterator
    × IsBuilt l.made l.tail × (built_pairs l.made l.tail ++ l.item-iterator.rest.items ≡ l.fn.items.items)
