use Rattle.pm_auto.proofs.SearchLaws.{Rounds, falses}
use Rattle.pm_auto.proofs.search.search.Given as goal

abbrev pub invariant-rounds : goal.invariant-rounds
invariant-rounds l = Rounds l.links l.goals l.start l.rounds l.last

abbrev pub decreases-rounds : goal.decreases-rounds
decreases-rounds l = falses l.last
