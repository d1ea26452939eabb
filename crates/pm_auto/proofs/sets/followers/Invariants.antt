use Rattle.std.proofs.Common.{◌≡◌, ◌+◌, ◌/◌, ℕ, ◌<◌, length, drop, ◌||◌}
use Rattle.pm_auto.specs.States.{has, Below}
use Rattle.pm_auto.specs.Runs.{next_rows}
use Rattle.pm_auto.specs.Members.{is_in}
use Rattle.pm_auto.proofs.sets.followers.Given as goal

abbrev pub invariant-loop-place : goal.invariant-loop-place
invariant-loop-place l = record {
  long : length l.words.items ≡ length l.rows / 64 + 1;
  below : Below (length l.rows) (drop l.place-index l.places);
  held : (j : ℕ) → j < length l.rows → has j (next_rows l.rows l.kind l.places) ≡ (is_in l.words.items j || has j (next_rows l.rows l.kind (drop l.place-index l.places)));
}
