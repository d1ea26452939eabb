use Rattle.std.proofs.Common.{sym, ◌∙◌}
use Rattle.std.specs.Prelude.{nat_eq}
use Rattle.std.specs.Cmp.Lexicographic.{pointwise}
use Rattle.pm_script.specs.declared.rooms.RoomSession.{RoomSession}
use Rattle.pm_script.specs.OpenRooms.{room_of}
use Rattle.pm_script.proofs.RoomLists.{position-map}
use Rattle.pm_script.proofs.room_lines.named.Goals as goal

pub returns-clause-place : goal.returns-clause-place
returns-clause-place c = c.place_of.ensures.place ∙ sym (position-map (λ (r : RoomSession). pointwise nat_eq c.args.name.now r.name) room_of c.args.rooms.now)
