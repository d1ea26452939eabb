use Rattle.std.proofs.Common.{◌≡◌, length, ◌≤◌, ◌-◌, None}
use Rattle.pm_map.specs.Moves.{is_before, kept_at}
use Rattle.pm_map.proofs.Pairs.{IsOver}
use Rattle.pm_history.specs.Laters.{items_of}
use Rattle.pm_history.specs.Pairs.{paired}
use Rattle.pm_history.proofs.later.Later.map.Given as goal

abbrev pub invariant-loop-i : goal.invariant-loop-i
invariant-loop-i g l = record {
  within : l.i ≤ length (items_of l.self);
  clean : l.so.recover ≡ None;
  over : IsOver (paired (items_of l.self)) l.i (is_before l.side) l.so (kept_at l.pos);
}

abbrev pub decreases-loop-i : goal.decreases-loop-i
decreases-loop-i g l = length (items_of l.self) - l.i
