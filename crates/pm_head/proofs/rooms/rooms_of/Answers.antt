use Rattle.std.proofs.Common.{◌≡◌, ◌<◌, ◌≤◌, length, rules}
use Rattle.std.specs.Prelude.{Some}
use Rattle.serde_json.specs.Find.{as_array}
use Rattle.serde_json.specs.View.{view, items_view}
use Rattle.pm_head.proofs.Counts.{some-rooms}
use Rattle.pm_head.proofs.rooms.rooms_of.Goals as goal

pub returns-clause-read : goal.returns-clause-read
returns-clause-read c =
    let values = c.deref.result.now in
    let is : as_array (view c.args.json.now) ≡ Some (items_view values) = search rules in
    let some : 0 < length values = search rules in
    let most : length values ≤ 16 = search rules in
    rw (some-rooms (view c.args.json.now) values is some most) c.names_of.ensures.read
