use Rattle.std.proofs.Common.{◌≡◌, ◌*◌, ◌+◌, drop, map}
use Rattle.pm_value.specs.Plain.{plains_of, depth, plains_depth}
use Rattle.pm_value.specs.Views.{plain, plains, field_pairs}
use Rattle.pm_value.specs.Equal.{same_values, same_pairs}
use Rattle.pm_value.proofs.same.+same.Given as goal

abbrev pub invariant-same_values-loop-i : goal.invariant-same_values-loop-i
invariant-same_values-loop-i l = same_values (plains_of (plains (drop l.i l.left))) (plains_of (plains (drop l.i l.right))) ≡ same_values (plains_of (plains l.left)) (plains_of (plains l.right))

abbrev pub invariant-same_fields-loop-i : goal.invariant-same_fields-loop-i
invariant-same_fields-loop-i l = same_pairs (field_pairs (drop l.i l.left)) (field_pairs (drop l.i l.right)) ≡ same_pairs (field_pairs l.left) (field_pairs l.right)

abbrev pub decreases-same_value : goal.decreases-same_value
decreases-same_value l = 2 * depth (plain l.left.now)

abbrev pub decreases-same_values : goal.decreases-same_values
decreases-same_values l = 2 * plains_depth (plains_of (plains l.left.now)) + 1

abbrev pub decreases-same_fields : goal.decreases-same_fields
decreases-same_fields l = 2 * plains_depth (plains_of (map (λ p. p.1) (field_pairs l.left.now))) + 1
