use Rattle.std.proofs.Common.{◌≡◌, ◌<◌, ◌≤◌, length, rules}
use Rattle.std.specs.Prelude.{Some}
use Rattle.serde_json.specs.Find.{as_array}
use Rattle.serde_json.specs.View.{view, items_view}
use Rattle.pm_head.proofs.Counts.{some-clients}
use Rattle.pm_head.proofs.clients.clients_of.Goals as goal

pub returns-clause-read : goal.returns-clause-read
returns-clause-read c =
    let values = c.deref.result.now in
    let is : as_array (view c.args.json.now) ≡ Some (items_view values) = search rules in
    let some : 0 < length values = search rules in
    let most : length values ≤ 32 = search rules in
    rw (some-clients c.args.form (view c.args.json.now) values is some most) c.entries_of.ensures.read
