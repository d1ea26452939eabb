use Rattle.std.proofs.Common.{◌≡◌, ℕ, slice_get, Some, vec_len}
use Rattle.pm_workers.specs.Threads.{own_lines}
use Rattle.pm_workers.proofs.hands.hand_out.Given as goal

abbrev pub invariant-loop-line : goal.invariant-loop-line
invariant-loop-line g l = record {
  count : vec_len l.hands ≡ l.fn.count;
  own : (i : ℕ) (own : _) → slice_get l.hands.items i ≡ Some own → own.items ≡ own_lines i l.yielded;
}
