use Rattle.std.proofs.Common.{◌≡◌, ◌-◌, ◌≤◌, length, take}
use Rattle.pm_units.specs.Pieces.{text_in, IsPieces}
use Rattle.pm_units.proofs.form.pieces_of.Given as goal

abbrev pub invariant-loop-at : goal.invariant-loop-at
invariant-loop-at l = record {
  pieces : IsPieces l.made;
  within : l.at ≤ length l.units;
  text : text_in l.made ≡ take l.at l.units;
}

abbrev pub decreases-loop-at : goal.decreases-loop-at
decreases-loop-at l = length l.units - l.at
