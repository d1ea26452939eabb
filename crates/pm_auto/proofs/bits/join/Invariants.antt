use Rattle.std.proofs.Common.{◌≡◌, ℕ, ◌<◌, ◌≤◌, length, get_or, bit_or}
use Rattle.pm_auto.proofs.bits.join.Given as goal

abbrev pub invariant-loop-i : goal.invariant-loop-i
invariant-loop-i l = record {
  long : length l.words.items ≡ length l.initial.words.items;
  done : (k : ℕ) → k < l.i → get_or l.words.items k 0 ≡ bit_or (get_or l.initial.words.items k 0) (get_or l.more k 0);
  left : (k : ℕ) → l.i ≤ k → get_or l.words.items k 0 ≡ get_or l.initial.words.items k 0;
}
