use Rattle.std.proofs.Common.{◌≡◌, ◌+◌, ◌++◌, ℕ, drop, length, slice_get, Some, vec_len}
use Rattle.pm_rooms.specs.Handed.{handed}
use Rattle.pm_rooms.proofs.sharing.hand_by.Given as goal

abbrev pub invariant-loop-turn : goal.invariant-loop-turn
invariant-loop-turn g l = record {
  count : vec_len l.hands ≡ l.fn.count;
  left : length l.left.items + l.turn-index ≡ length l.turns;
  own : (i : ℕ) (own : _) → slice_get l.hands.items i ≡ Some own → own.items ++ handed i (drop l.turn-index l.turns) l.left.items ≡ handed i l.turns l.fn.items.items;
}
