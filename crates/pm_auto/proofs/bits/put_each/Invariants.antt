use Rattle.std.proofs.Common.{◌≡◌, ℕ, take, ◌||◌}
use Rattle.pm_auto.specs.States.{has}
use Rattle.pm_auto.specs.Members.{is_in}
use Rattle.pm_auto.proofs.bits.put_each.Given as goal

abbrev pub invariant-loop-number : goal.invariant-loop-number
invariant-loop-number l = (j : ℕ) → is_in l.words.items j ≡ (is_in l.initial.words.items j || has j (take l.number-index l.numbers))
