use Rattle.std.proofs.Common.{◌<◌, ◌≤◌, ℕ, get_or}
use Rattle.pm_rooms.proofs.sharing.highest_of.Given as goal

abbrev pub invariant-loop-n : goal.invariant-loop-n
invariant-loop-n l = record {
  more : l.number ≤ l.highest;
  most : (k : ℕ) → k < l.n-index → get_or l.numbers k 0 ≤ l.highest;
}
