use Rattle.pm_rooms.specs.Handed.{Matched}
use Rattle.pm_rooms.specs.Parted.{IsParted}
use Rattle.pm_rooms.proofs.parting.part_all.Given as goal

abbrev pub invariant-loop-person : goal.invariant-loop-person
invariant-loop-person g l = Matched (λ p w. IsParted p w.items) l.yielded l.all.items
