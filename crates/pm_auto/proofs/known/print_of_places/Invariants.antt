use Rattle.std.proofs.Common.{◌≡◌, drop}
use Rattle.pm_auto.specs.Prints.{print_from}
use Rattle.pm_auto.proofs.known.print_of_places.Given as goal

abbrev pub invariant-loop-place : goal.invariant-loop-place
invariant-loop-place l = print_from 0 l.places ≡ print_from l.print (drop l.place-index l.places)
