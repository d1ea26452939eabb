use Rattle.std.proofs.Common.{◌≡◌, ◌+◌, ℕ, drop, length, slice_get, Some}
use Rattle.pm_rooms.specs.Parted.{IsPartSoFar}
use Rattle.pm_rooms.proofs.parting.part.Given as goal

abbrev pub invariant-loop-place : goal.invariant-loop-place
invariant-loop-place g l = record {
  count : length l.workers.items ≡ length l.fn.person.stands.items;
  left : length l.lines.items + l.place-index ≡ length l.fn.person.lines.items;
  told : length l.outcomes.items + l.place-index ≡ length l.fn.person.lines.items;
  lines : l.lines.items ≡ drop l.place-index l.fn.person.lines.items;
  parts : (j : ℕ) (x : _) (w : _) → slice_get l.fn.person.stands.items j ≡ Some x → slice_get l.workers.items j ≡ Some w
      → IsPartSoFar l.fn.person.lines.items l.lines.items l.fn.person.outcomes.items l.outcomes.items x w;
}
