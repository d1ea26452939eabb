use Rattle.std.proofs.Common.{◌≡◌, ℕ, ◌<◌, slice_get, Some}
use Rattle.pm_rooms.specs.Stands.{IsPlayedBy}
use Rattle.pm_rooms.proofs.stand.stand_of.Given as goal

abbrev pub invariant-loop-at : goal.invariant-loop-at
invariant-loop-at g l = (j : ℕ) (x : _) → j < l.at → slice_get l.stands j ≡ Some x → IsPlayedBy x l.line → ⊥
