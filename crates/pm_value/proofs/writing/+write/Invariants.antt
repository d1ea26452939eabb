use Rattle.std.proofs.Common.{◌≡◌, ◌≤◌, ◌*◌, ◌+◌, length, drop, map}
use Rattle.serde_json.specs.View.{view, members_view}
use Rattle.pm_value.specs.Plain.{plains_of, depth, plains_depth}
use Rattle.pm_value.specs.Views.{plain, plains, field_pairs}
use Rattle.pm_value.specs.Writing.{items_written, pairs_written}
use Rattle.pm_value.proofs.Members.{before}
use Rattle.pm_value.proofs.Keeping.{ValuesKept, FieldsKept}
use Rattle.pm_value.proofs.writing.+write.Given as goal

abbrev pub invariant-items_json-loop-value : goal.invariant-items_json-loop-value
invariant-items_json-loop-value l =
    (before (map view l.items.items) (items_written (plains_of (plains (drop l.value-index l.values)))) ≡ items_written (plains_of (plains l.values))) × (ValuesKept (drop l.value-index l.values) → ValuesKept l.values)

abbrev pub invariant-fields_json-loop-i : goal.invariant-fields_json-loop-i
invariant-fields_json-loop-i l = (l.i ≤ length l.fields) × (members_view l.map.entries ≡ pairs_written (field_pairs (drop l.i l.fields))) × FieldsKept (drop l.i l.fields)

abbrev pub decreases-fields_json-loop-i : goal.decreases-fields_json-loop-i
decreases-fields_json-loop-i l = l.i

abbrev pub decreases-json_of : goal.decreases-json_of
decreases-json_of l = 2 * depth (plain l.value.now)

abbrev pub decreases-items_json : goal.decreases-items_json
decreases-items_json l = 2 * plains_depth (plains_of (plains l.values.now)) + 1

abbrev pub decreases-fields_json : goal.decreases-fields_json
decreases-fields_json l = 2 * plains_depth (plains_of (map (λ p. p.1) (field_pairs l.fields.now))) + 1
