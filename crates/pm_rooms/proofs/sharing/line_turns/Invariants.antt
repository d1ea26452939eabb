use Rattle.std.proofs.Common.{◌≡◌, map, take}
use Rattle.pm_rooms.specs.Opened.{line_person}
use Rattle.pm_rooms.proofs.sharing.line_turns.Given as goal

abbrev pub invariant-loop-line : goal.invariant-loop-line
invariant-loop-line g l = l.turns.items ≡ map (line_person (map (λ v. v.items) l.people)) (take l.line-index l.lines)
