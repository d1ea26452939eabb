use Rattle.std.proofs.Common.{◌≡◌, drop, map}
use Rattle.serde_json.specs.View.{items_of}
use Rattle.pm_list.specs.Readings.{with_front}
use Rattle.pm_schemajson.specs.Reading.{node_list}
use Rattle.pm_schemajson.specs.Views.{node_texts}
use Rattle.pm_schemajson.proofs.nodes.node_list.Given as goal

abbrev pub invariant-loop-item : goal.invariant-loop-item
invariant-loop-item g l =
    with_front (node_texts l.nodes.items) (node_list l.version (items_of (map g.J.JsonRef.seen (drop l.item-index l.items)))) ≡ node_list l.version (items_of (map g.J.JsonRef.seen l.items))
