use Rattle.std.proofs.Common.{◌≡◌, map, drop}
use Rattle.serde_json.specs.View.{items_of}
use Rattle.pm_list.specs.Readings.{with_front}
use Rattle.pm_opjson.specs.Parts.{step_list}
use Rattle.pm_talk.proofs.at_once.step_list.Given as goal

abbrev pub invariant-loop-item : goal.invariant-loop-item
invariant-loop-item g l = with_front l.steps (step_list l.schema.spec (items_of (map g.J.JsonRef.seen (drop l.item-index l.items)))) ≡ step_list l.schema.spec (items_of (map g.J.JsonRef.seen l.items))
