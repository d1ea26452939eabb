use Rattle.std.proofs.Common.{◌≡◌, All, length, take}
use Rattle.pm_rooms.proofs.running.all_done.Given as goal

abbrev pub invariant-loop-person : goal.invariant-loop-person
invariant-loop-person g l = All (λ p. length p.outcomes.items ≡ length p.lines.items) (take l.person-index l.people)
