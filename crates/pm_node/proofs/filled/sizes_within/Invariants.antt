use Rattle.pm_node.specs.Sizes.{Sizes}
use Rattle.pm_node.proofs.filled.sizes_within.Given as goal

abbrev pub invariant-loop-level : goal.invariant-loop-level
invariant-loop-level l = Sizes l.schema.spec l.fills l._level l.sizes
