use Rattle.std.proofs.Common.{◌≡◌, ℕ, List, ◌++◌, drop, length, string_bytes}
use Rattle.std.specs.Prelude.{All}
use Rattle.std.specs.Vec.Iter.{into_iter_items}
use Rattle.pm_call.specs.Handing.{EntriesTold}
use Rattle.pm_call.proofs.RoomRuns.{IsSound}
use Rattle.pm_call.proofs.running_rooms.tell_rooms.Given as goal

abbrev pub invariant-loop-entry : goal.invariant-loop-entry
invariant-loop-entry l = record {
  sound : All IsSound (into_iter_items l.rest);
  count : length (drop l.entry-index l.entries) ≡ length (into_iter_items l.rest);
  told : (more : List ℕ) → EntriesTold (drop l.entry-index l.entries) (into_iter_items l.rest) more → EntriesTold l.entries l.fn.played.items (string_bytes l.text ++ more);
}
