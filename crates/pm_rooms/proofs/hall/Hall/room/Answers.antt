use Rattle.std.proofs.Common.{rules, ◌<◌, length, sym, ap, ◌∙◌, Some}
use Rattle.pm_client.proofs.Takings.{index-get}
use Rattle.pm_session.specs.Events.{state_of}
use Rattle.pm_workers.proofs.MergeLaws.{map-get}
use Rattle.pm_rooms.proofs.hall.Hall.room.Goals as goal

pub returns : goal.returns
returns g c =
    let rooms = c.args.self.now.rooms.items in
    let r = c.args.r in
    let within : r < length rooms = search rules in
    let at = index-get rooms r c.index.result.now within ∙ ap Some (sym c.index.ensures) in
    record { room = at; state = map-get state_of rooms r c.index.result.now at }
