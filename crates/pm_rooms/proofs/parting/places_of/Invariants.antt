use Rattle.std.proofs.Common.{◌≡◌, length}
use Rattle.pm_rooms.specs.Parted.{ArePlaces}
use Rattle.pm_rooms.proofs.parting.places_of.Given as goal

abbrev pub invariant-loop-line : goal.invariant-loop-line
invariant-loop-line g l = record {
  count : length l.places.items ≡ l.line-index;
  places : ArePlaces l.stands l.lines l.places.items;
}
