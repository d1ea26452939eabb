use Rattle.std.proofs.Common.{◌≡◌, map, take}
use Rattle.pm_auto.specs.declared.sets.PlaceSet.{PlaceSet}
use Rattle.pm_auto.proofs.states.ends_of_sets.Given as goal

abbrev pub invariant-loop-set : goal.invariant-loop-set
invariant-loop-set l = l.ends ≡ map (λ (p : PlaceSet). p.ends) (take l.set-index l.sets)
