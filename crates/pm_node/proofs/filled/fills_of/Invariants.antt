use Rattle.pm_node.proofs.FilledLaws.{FillsBelow}
use Rattle.pm_node.proofs.filled.fills_of.Given as goal

abbrev pub invariant-loop-kind : goal.invariant-loop-kind
invariant-loop-kind l = FillsBelow l.schema l.fills l.kind
