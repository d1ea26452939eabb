use Rattle.std.proofs.Common.{◌≡◌, drop}
use Rattle.serde_json.specs.View.{items_view}
use Rattle.pm_list.specs.Readings.{with_front}
use Rattle.pm_asked.specs.Given.{owner_list}
use Rattle.pm_asked.proofs.given.owner_list.Given as goal

abbrev pub invariant-loop-item : goal.invariant-loop-item
invariant-loop-item l = with_front l.own (owner_list l.id (items_view (drop l.item-index l.items))) ≡ owner_list l.id (items_view l.items)
