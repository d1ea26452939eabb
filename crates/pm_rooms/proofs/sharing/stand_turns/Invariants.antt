use Rattle.std.proofs.Common.{◌≡◌, map, take}
use Rattle.pm_rooms.specs.Opened.{stand_person}
use Rattle.pm_rooms.proofs.sharing.stand_turns.Given as goal

abbrev pub invariant-loop-stand : goal.invariant-loop-stand
invariant-loop-stand g l = l.turns.items ≡ map (stand_person (map (λ v. v.items) l.people)) (take l.stand-index l.stands)
