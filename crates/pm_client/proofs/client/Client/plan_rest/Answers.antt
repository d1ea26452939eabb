use Rattle.std.proofs.Common.{◌-◌, length, take, drop, ap, ◌∙◌}
use Rattle.std.proofs.lemmas.List.{take_rest}
use Rattle.pm_client.specs.Clients.{carried}
use Rattle.pm_client.proofs.Plannings.{carried-at, plan-is}
use Rattle.pm_client.proofs.client.Client.plan_rest.Goals as goal

pub rebase_over-requires : goal.rebase_over-requires
rebase_over-requires g c =
    let own = c.own_steps-own.result in
    let rest = c.args.rest.now in
    let pending = c.as_slice.result.now in (
      c.args.self.now.doc,
      rw (take_rest rest own, take_rest pending own, c.as_slice.ensures, c.own_steps-own.ensures.own) (c.requires.fits.over c.in_ok-base.base c.in_ok-base.ensures),
    )

pub step_maps-requires : goal.step_maps-requires
step_maps-requires g c = rw (take_rest c.args.rest.now c.own_steps-own.result, c.own_steps-own.ensures.own) c.requires.fits.have_maps

pub move_all-requires : goal.move_all-requires
move_all-requires g c =
    let m = g.C.Change.means in
    let client = c.args.self.now in
    let own = c.own_steps-own.result in
    let base = c.in_ok-base.base in
    let rest = c.args.rest.now in
    let pending = c.as_slice.result.now in
    let can = rw (← c.own_steps-own.ensures.own) at (c.requires.fits.over base c.in_ok-base.ensures) in
    let at =
    carried-at m c.args.rules.now client rest (take (length rest - own) (drop own rest)) (take (length pending - own) (drop own pending)) own base c.in_ok-rebasing.rebasing
    c.in_ok-rebasing.ensures (take_rest rest own) (take_rest pending own ∙ ap (drop own) c.as_slice.ensures) can in
    let so = carried m c.args.rules.now client own (drop own rest) base in
    rw c.as_slice-4.ensures (so.maps, m.size client.doc, m.size so.doc, (at.leads, c.requires.fits.cursors))

pub returns-clause-plan : goal.returns-clause-plan
returns-clause-plan g c =
    let m = g.C.Change.means in
    let client = c.args.self.now in
    let rest = c.args.rest.now in
    let own = c.own_steps-own.result in
    let base = c.in_ok-base.base in
    let pending = c.as_slice.result.now in
    let can = rw (← c.own_steps-own.ensures.own) at (c.requires.fits.over base c.in_ok-base.ensures) in
    let at =
    carried-at m c.args.rules.now client rest (take (length rest - own) (drop own rest)) (take (length pending - own) (drop own pending)) own base c.in_ok-rebasing.rebasing
    c.in_ok-rebasing.ensures (take_rest rest own) (take_rest pending own ∙ ap (drop own) c.as_slice.ensures) can in
    let so = carried m c.args.rules.now client own (drop own rest) base in
    let foreign_are = rw (take_rest rest own) at c.in_ok-step_maps.ensures in
    let dropped_is = rw (c.as_slice-2.ensures, c.as_slice-3.ensures) at c.in_ok-merge.ensures in
    let moved = rw c.as_slice-4.ensures at c.in_ok-move_all.ensures in
    let cursors_are = moved so.maps (m.size client.doc) (m.size so.doc) at.leads c.requires.fits.cursors in
    plan-is m c.args.rules.now client rest own c.in_ok-step_maps.field-0 base c.in_ok-rebasing.rebasing c.in_ok-merge.field-0 c.in_ok-move_all.field-0 c.own_steps-own.ensures.own c.own_steps-own.ensures.within
    c.if-own-rest.false c.in_ok-base.ensures foreign_are at dropped_is cursors_are
