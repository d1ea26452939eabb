use Rattle.std.proofs.Common.{◌≡◌, ◌*◌, ◌+◌, take, map}
use Rattle.pm_value.specs.Plain.{plains_of, depth, plains_depth}
use Rattle.pm_value.specs.Views.{plain, plains, field_pairs}
use Rattle.pm_value.proofs.copying.+copy.Given as goal

abbrev pub invariant-copy_values-loop-value : goal.invariant-copy_values-loop-value
invariant-copy_values-loop-value l = l.copies.items ≡ take l.value-index l.values

abbrev pub invariant-copy_fields-loop-field : goal.invariant-copy_fields-loop-field
invariant-copy_fields-loop-field l = l.copies.items ≡ take l.field-index l.fields

abbrev pub decreases-copy_value : goal.decreases-copy_value
decreases-copy_value l = 2 * depth (plain l.value.now)

abbrev pub decreases-copy_values : goal.decreases-copy_values
decreases-copy_values l = 2 * plains_depth (plains_of (plains l.values.now)) + 1

abbrev pub decreases-copy_fields : goal.decreases-copy_fields
decreases-copy_fields l = 2 * plains_depth (plains_of (map (λ p. p.1) (field_pairs l.fields.now))) + 1
