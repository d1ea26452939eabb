use Rattle.std.proofs.Common.{◌≡◌, ◌+◌, ◌/◌, ℕ, ◌<◌, length, drop, ◌||◌}
use Rattle.pm_auto.specs.States.{has}
use Rattle.pm_auto.specs.Members.{is_in}
use Rattle.pm_auto.proofs.bits.bits_of.Given as goal

abbrev pub invariant-loop-number : goal.invariant-loop-number
invariant-loop-number l = record {
  long : length l.words.items ≡ l.count / 64 + 1;
  held : (j : ℕ) → j < l.count → has j l.numbers ≡ (is_in l.words.items j || has j (drop l.number-index l.numbers));
}
