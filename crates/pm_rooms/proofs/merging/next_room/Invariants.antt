use Rattle.std.proofs.Common.{◌≡◌, ◌<◌, ℕ, length, get_or}
use Rattle.std.specs.Prelude.{MatchOption}
use Rattle.pm_rooms.proofs.merging.next_room.Given as goal

abbrev pub invariant-loop-at : goal.invariant-loop-at
invariant-loop-at g l = MatchOption l.next ((k : ℕ) (d : _) → k < l.at → length (get_or l.left k d).items ≡ 0) (λ r. (r < length l.left) × ((d : _) → 0 < length (get_or l.left r d).items))
