use Rattle.std.proofs.Common.{◌≡◌, [], drop, length}
use Rattle.serde_json.specs.View.{items_view}
use Rattle.pm_list.specs.Readings.{with_front}
use Rattle.pm_head.specs.Clients.{entries_of}
use Rattle.pm_head.proofs.clients.entries_of.Given as goal

abbrev pub invariant-loop-item : goal.invariant-loop-item
invariant-loop-item l =
    (length l.clients ≡ l.item-index)
    × (with_front l.clients (entries_of l.form l.clients (items_view (drop l.item-index l.items))) ≡ entries_of l.form [] (items_view l.items))
