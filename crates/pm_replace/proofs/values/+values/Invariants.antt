use Rattle.std.proofs.Common.{◌≤◌, ◌↔◌, ◌*◌, ◌+◌, drop, map}
use Rattle.pm_value.specs.Plain.{plains_of, depth, plains_depth}
use Rattle.pm_value.specs.Views.{plain, plains, field_pairs}
use Rattle.pm_replace.proofs.values.+values.Given as goal

abbrev pub invariant-values_are_within-loop-value : goal.invariant-values_are_within-loop-value
invariant-values_are_within-loop-value l = (plains_depth (plains_of (plains l.values)) ≤ l.levels) ↔ (plains_depth (plains_of (plains (drop l.value-index l.values))) ≤ l.levels)

abbrev pub invariant-fields_are_within-loop-field : goal.invariant-fields_are_within-loop-field
invariant-fields_are_within-loop-field l =
    (plains_depth (plains_of (map (λ f. f.1) (field_pairs l.fields))) ≤ l.levels) ↔ (plains_depth (plains_of (map (λ f. f.1) (field_pairs (drop l.field-index l.fields)))) ≤ l.levels)

abbrev pub decreases-value_is_within : goal.decreases-value_is_within
decreases-value_is_within l = 2 * depth (plain l.value.now)

abbrev pub decreases-values_are_within : goal.decreases-values_are_within
decreases-values_are_within l = 2 * plains_depth (plains_of (plains l.values.now)) + 1

abbrev pub decreases-fields_are_within : goal.decreases-fields_are_within
decreases-fields_are_within l = 2 * plains_depth (plains_of (map (λ p. p.1) (field_pairs l.fields.now))) + 1
