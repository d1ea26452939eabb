use Rattle.std.proofs.Common.{◌≡◌, ◌<◌, length, rules, sym, ap, ◌∙◌}
use Rattle.std.specs.Prelude.{slice_get, Some}
use Rattle.serde_json.specs.View.{view}
use Rattle.pm_script.proofs.RoomLists.{index-get}
use Rattle.pm_script.proofs.OpenRooms.{put-room}
use Rattle.pm_script.proofs.room_lines.add_at.Goals as goal

pub returns-clause-read : goal.returns-clause-read
returns-clause-read c =
    let rooms = c.args.rooms.now.items in
    let room = c.index_mut-room.result.now in
    let within : c.args.place < length c.args.rooms.now.items = search rules in
    let there : slice_get c.args.rooms.now.items c.args.place ≡ Some c.index_mut-room.result.now = index-get rooms c.args.place room within ∙ ap Some (sym c.index_mut-room.ensures.value) in
    put-room rooms c.args.place c.args.number (view c.args.json.now) room c.add.new.self there c.add.result c.add.ensures.read
