use Rattle.std.proofs.Common.{◌≡◌, ◌++◌, drop}
use Rattle.pm_auto.specs.Near.{wider}
use Rattle.pm_auto.proofs.search.widen.Given as goal

abbrev pub invariant-loop-node : goal.invariant-loop-node
invariant-loop-node l = wider l.marks l.links l.marks ≡ l.list ++ wider l.marks (drop l.node l.links) (drop l.node l.marks)
