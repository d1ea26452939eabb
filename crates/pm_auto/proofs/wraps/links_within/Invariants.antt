use Rattle.std.proofs.Common.{◌≡◌, take, map, length}
use Rattle.pm_auto.specs.Wraps.{inner_links}
use Rattle.pm_auto.proofs.wraps.links_within.Given as goal

abbrev pub invariant-loop-auto : goal.invariant-loop-auto
invariant-loop-auto l = l.list ≡ map (inner_links l.may_wrap (length l.autos)) (take l.auto-index l.autos)
