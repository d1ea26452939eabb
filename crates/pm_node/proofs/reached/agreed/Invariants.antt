use Rattle.std.proofs.Common.{◌<◌, length}
use Rattle.std.specs.Prelude.{IfSome}
use Rattle.pm_node.proofs.ReachedLaws.{Agrees}
use Rattle.pm_node.proofs.reached.agreed.Given as goal

abbrev pub invariant-loop-i : goal.invariant-loop-i
invariant-loop-i l = Agrees l.automaton.edges l.kind l.found l.i l.only × IfSome l.only (λ r. r < length l.automaton.sets)
