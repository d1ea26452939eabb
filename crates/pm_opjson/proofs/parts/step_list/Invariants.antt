use Rattle.std.proofs.Common.{◌≡◌, drop}
use Rattle.serde_json.specs.View.{items_view}
use Rattle.pm_list.specs.Readings.{with_front}
use Rattle.pm_opjson.specs.Parts.{step_list}
use Rattle.pm_opjson.proofs.parts.step_list.Given as goal

abbrev pub invariant-loop-item : goal.invariant-loop-item
invariant-loop-item l = with_front l.steps (step_list l.schema.spec (items_view (drop l.item-index l.items))) ≡ step_list l.schema.spec (items_view l.items)
