use Rattle.std.proofs.Common.{◌≡◌, drop, map}
use Rattle.serde_json.specs.View.{items_of}
use Rattle.pm_list.specs.Readings.{with_front}
use Rattle.pm_docjson.specs.Reading.{mark_list}
use Rattle.pm_docjson.proofs.reading_marks.mark_list.Given as goal

abbrev pub invariant-loop-item : goal.invariant-loop-item
invariant-loop-item g l =
    with_front l.marks.items (mark_list l.schema.spec (items_of (map g.J.JsonRef.seen (drop l.item-index l.items)))) ≡ mark_list l.schema.spec (items_of (map g.J.JsonRef.seen l.items))
