use Rattle.std.specs.Prelude.{sum_by}
use Rattle.std.proofs.Common.{◌≡◌, ◌++◌, ◌<◌, ℕ, All, length, slice_get, Some, vec_len}
use Rattle.pm_rooms.specs.Lines.{lines_in}
use Rattle.pm_rooms.proofs.merging.interleave.Given as goal

abbrev pub invariant-loop-room : goal.invariant-loop-room
invariant-loop-room g l = record {
  count : length l.left.items ≡ length l.fn.rooms.items;
  rooms : (r : ℕ) (own : _) (q : _) → slice_get l.fn.rooms.items r ≡ Some own → slice_get l.left.items r ≡ Some q → lines_in r l.lines.items ++ q.items ≡ own.items;
  there : All (λ line. line.room < vec_len l.fn.rooms) l.lines.items;
}

abbrev pub decreases-loop-room : goal.decreases-loop-room
decreases-loop-room g l = sum_by (λ q. length q.items) l.left.items
