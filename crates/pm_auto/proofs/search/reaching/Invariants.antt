use Rattle.std.proofs.Common.{◌≡◌, length}
use Rattle.pm_auto.specs.Near.{Keeps, All_reach}
use Rattle.pm_auto.proofs.SearchLaws.{falses}
use Rattle.pm_auto.proofs.search.reaching.Given as goal

abbrev pub invariant-rounds : goal.invariant-rounds
invariant-rounds l = record {
  full : length l.last.items ≡ length l.links;
  keeps : Keeps l.goals l.last.items;
  reach : All_reach l.links l.goals l.last.items;
}

abbrev pub decreases-rounds : goal.decreases-rounds
decreases-rounds l = falses l.last.items
