use Rattle.std.proofs.Common.{◌≡◌, ◌-◌, ◌≤◌, take, drop}
use Rattle.pm_units.specs.Pieces.{piece_units, text_in}
use Rattle.pm_units.proofs.form.short_part.Given as goal

abbrev pub invariant-loop-at : goal.invariant-loop-at
invariant-loop-at l = record {
  from_on : l.from ≤ l.at;
  within : l.at ≤ l.to;
  made : piece_units l.made ≡ take (l.at - l.from) (drop l.from (text_in l.pieces));
}

abbrev pub decreases-loop-at : goal.decreases-loop-at
decreases-loop-at l = l.to - l.at
