use Rattle.std.proofs.Common.{◌≡◌, arith, Ok}
use Rattle.std.proofs.lemmas.Grind.{common_steps}
use Rattle.pm_map.specs.Positions.{MayLead, IsItself}
use Rattle.pm_client.specs.Cursors.{AreIn}
use Rattle.pm_client.specs.Makes.{made_all}
use Rattle.pm_client.proofs.Advances.{run-maps, run-room}
use Rattle.pm_client.proofs.Handed.{named-leads}
use Rattle.pm_client.proofs.Makings.{has-made}
use Rattle.pm_client.proofs.Movings.{moved-itself}
use Rattle.pm_client.proofs.client.Client.edit_given.Goals as goal

pub maps_over-requires : goal.maps_over-requires
maps_over-requires g c =
    let m = g.C.Change.means in
    let doc = c.args.self.now.doc in
    let added = c.in_ok-added.added in
    let was : made_all m c.args.rules.now doc added ≡ Ok c.in-Ok.made = rw c.as_slice.ensures at c.in-Ok.ensures in
    rw c.as_slice-in-Ok.ensures
    (run-maps m c.args.rules.now g.met.C.Change.laws doc c.in-Ok.made.doc added c.requires.good (has-made m c.args.rules.now doc added c.in-Ok.made was).ran)

pub move_all-requires : goal.move_all-requires
move_all-requires g c =
    let m = g.C.Change.means in
    let doc = c.args.self.now.doc in
    let added = c.in_ok-added.added in
    let was : made_all m c.args.rules.now doc added ≡ Ok c.in-Ok.made = rw c.as_slice.ensures at c.in-Ok.ensures in
    rw (c.as_slice-in-Ok-2.ensures, c.in_ok-maps-in-Ok.ensures, c.as_slice-in-Ok.ensures)
    (run-room m c.args.rules.now g.met.C.Change.laws doc c.in-Ok.made.doc added c.args.self.now.cursors c.requires.good c.requires.cursors (has-made m c.args.rules.now doc added c.in-Ok.made was).ran)

pub returns-in-Ok-clause-made : goal.returns-in-Ok-clause-made
returns-in-Ok-clause-made g c =
    let m = g.C.Change.means in
    let doc = c.args.self.now.doc in
    let added = c.in_ok-added.added in
    let maps = c.in_ok-maps-in-Ok.maps in
    let cursors = c.as_slice-in-Ok-2.result.now in
    let was : made_all m c.args.rules.now doc added ≡ Ok c.in-Ok.made = rw c.as_slice.ensures at c.in-Ok.ensures in
    let room : MayLead AreIn IsItself cursors maps =
    rw (c.as_slice-in-Ok-2.ensures, c.in_ok-maps-in-Ok.ensures, c.as_slice-in-Ok.ensures)
    (run-room m c.args.rules.now g.met.C.Change.laws doc c.in-Ok.made.doc added c.args.self.now.cursors c.requires.good c.requires.cursors (has-made m c.args.rules.now doc added c.in-Ok.made was).ran) in
    let moved = moved-itself maps cursors c.in_ok-cursors-in-Ok.cursors room c.in_ok-cursors-in-Ok.ensures in
    grind (arith, common_steps, moved)

pub make_to-requires-clause-leads : goal.make_to-requires-clause-leads
make_to-requires-clause-leads g c =
    let client = c.args.self.now in
    rw (c.as_slice.ensures, c.in_ok-added.ensures) (named-leads g.C.Change.means c.args.rules.now client.doc client.name c.in_ok-serial.serial c.args.steps.items c.args.end c.requires.leads)
