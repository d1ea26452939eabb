use Rattle.std.proofs.Common.{◌≡◌, ℕ, ◌<◌, [], ◌++◌, length, drop, get_or}
use Rattle.pm_auto.specs.Runs.{look}
use Rattle.pm_auto.specs.Table.{some}
use Rattle.pm_auto.specs.States.{has, kinds, once, Below}
use Rattle.pm_auto.specs.Groups.{twin_of, of_kind}
use Rattle.pm_auto.proofs.groups.group.Given as goal

abbrev pub invariant-loop-place : goal.invariant-loop-place
invariant-loop-place l = record {
  below : Below (length l.rows) (drop l.place-index l.places);
  mine : Below (length l.rows) l.heads;
  full : length l.lists.items ≡ length l.rows;
  heads : once [] (kinds l.rows l.places) ≡ kinds l.rows l.heads ++ once (kinds l.rows l.heads) (kinds l.rows (drop l.place-index l.places));
  seen : (r : ℕ) → r < length l.rows → has (look l.rows r).kind (kinds l.rows l.heads) ≡ some (get_or l.lists.items (twin_of l.rows r) []);
  lists : (r : ℕ) → r < length l.rows → of_kind l.rows (look l.rows r).kind l.places ≡ get_or l.lists.items (twin_of l.rows r) [] ++ of_kind l.rows (look l.rows r).kind (drop l.place-index l.places);
}
