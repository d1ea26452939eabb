use Rattle.std.proofs.Common.{◌≡◌, [], drop}
use Rattle.serde_json.specs.View.{items_view}
use Rattle.pm_order.specs.Clients.{id_list}
use Rattle.pm_order.proofs.clients.id_list.Given as goal

abbrev pub invariant-loop-item : goal.invariant-loop-item
invariant-loop-item l = id_list l.ids (items_view (drop l.item-index l.items)) ≡ id_list [] (items_view l.items)
