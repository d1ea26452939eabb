use Rattle.std.proofs.Common.{◌≡◌, ◌-◌, ◌≤◌, ◌++◌, take, drop}
use Rattle.pm_units.specs.Pieces.{text_in}
use Rattle.pm_units.proofs.pieces.Pieces.put_part.Given as goal

abbrev pub invariant-loop-at : goal.invariant-loop-at
invariant-loop-at l = record {
  from_on : l.from ≤ l.at;
  within : l.at ≤ l.to;
  put : l.list.items ≡ l.initial.list.items ++ take (l.at - l.from) (drop l.from (text_in l.self));
}

abbrev pub decreases-loop-at : goal.decreases-loop-at
decreases-loop-at l = l.to - l.at
