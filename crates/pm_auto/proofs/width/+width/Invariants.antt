use Rattle.std.proofs.Common.{◌≡◌, ◌+◌, ◌≤◌, min, map, drop}
use Rattle.pm_auto.specs.Expand.{expand}
use Rattle.pm_auto.specs.Table.{widths}
use Rattle.pm_auto.proofs.width.+width.Given as goal

abbrev pub invariant-width_of_all-loop-item : goal.invariant-width_of_all-loop-item
invariant-width_of_all-loop-item l =
    (l.sum ≤ 4097) × (min (widths (map expand l.items)) 4097 ≡ min (l.sum + widths (map expand (drop l.item-index l.items))) 4097)
