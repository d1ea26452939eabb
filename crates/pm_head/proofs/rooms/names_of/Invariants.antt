use Rattle.std.proofs.Common.{◌≡◌, [], drop, length}
use Rattle.serde_json.specs.View.{items_view}
use Rattle.pm_list.specs.Readings.{with_front}
use Rattle.pm_head.specs.Rooms.{rooms_from}
use Rattle.pm_head.proofs.rooms.names_of.Given as goal

abbrev pub invariant-loop-item : goal.invariant-loop-item
invariant-loop-item l =
    (length l.names ≡ l.item-index)
    × (with_front l.names (rooms_from l.names (items_view (drop l.item-index l.items))) ≡ rooms_from [] (items_view l.items))
