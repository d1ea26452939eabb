use Rattle.std.proofs.Common.{◌≡◌, ℕ, ◌<◌, length, get_or}
use Rattle.pm_auto.specs.Groups.{twin_of}
use Rattle.pm_auto.proofs.groups.twins.Given as goal

abbrev pub invariant-loop-row : goal.invariant-loop-row
invariant-loop-row l = record {
  full : length l.list ≡ l.row-index;
  twin : (p : ℕ) → p < l.row-index → get_or l.list p 0 ≡ twin_of l.rows p;
}
