use Rattle.std.proofs.Common.{◌≡◌, map, take}
use Rattle.pm_auto.specs.Tree.{tree}
use Rattle.pm_schema.proofs.same.+same.Given as goal

-- the parts so far say the same
abbrev pub invariant-same_exprs-loop-i : goal.invariant-same_exprs-loop-i
invariant-same_exprs-loop-i l = map tree (take l.i l.left) ≡ map tree (take l.i l.right)
