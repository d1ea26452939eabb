use Rattle.std.proofs.Common.{◌<◌, ◌≤◌, ℕ, map}
use Rattle.pm_rooms.specs.Opened.{person_of}
use Rattle.pm_rooms.proofs.sharing.count_of.Given as goal

abbrev pub invariant-loop-room : goal.invariant-loop-room
invariant-loop-room l = (client room : ℕ) → room < l.room-index → person_of (map (λ v. v.items) l.people) room client ≤ l.highest
