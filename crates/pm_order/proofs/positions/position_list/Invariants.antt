use Rattle.std.proofs.Common.{◌≡◌, drop}
use Rattle.serde_json.specs.View.{items_view}
use Rattle.pm_list.specs.Readings.{with_front}
use Rattle.pm_order.specs.Positions.{position_list}
use Rattle.pm_order.proofs.positions.position_list.Given as goal

abbrev pub invariant-loop-item : goal.invariant-loop-item
invariant-loop-item l = with_front l.positions (position_list (items_view (drop l.item-index l.items))) ≡ position_list (items_view l.items)
