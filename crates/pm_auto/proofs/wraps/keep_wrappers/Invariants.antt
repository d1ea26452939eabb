use Rattle.std.proofs.Common.{◌≡◌, ◌++◌, drop}
use Rattle.pm_auto.specs.Wraps.{wrappers}
use Rattle.pm_auto.proofs.wraps.keep_wrappers.Given as goal

abbrev pub invariant-loop-edge : goal.invariant-loop-edge
invariant-loop-edge l = wrappers l.may_wrap l.count l.to_end l.sets l.edges ≡ l.list ++ wrappers l.may_wrap l.count l.to_end l.sets (drop l.edge-index l.edges)
