use Rattle.pm_schema.proofs.Rounds.{Round}
use Rattle.pm_schema.proofs.generated.widen.Given as goal

abbrev pub invariant-loop-k : goal.invariant-loop-k
invariant-loop-k l = Round l.nodes l.initial.table l.table l.more l.k
