use Rattle.std.proofs.lemmas.List.{drop_all}
use Rattle.std.proofs.Common.{subst, sym}
use Rattle.pm_client.specs.Rebasables.{NamedHasMap}
use Rattle.pm_client.proofs.Pushings.{none-pushed, all-pushed, one-small, one-pushed}
use Rattle.pm_client.proofs.rebasing.route_over.Goals as goal

pub loop-step-init : goal.loop-step-init
loop-step-init g c = none-pushed g.C.Change.means c.args.steps.now c.for_steps-route.result c.for_steps-route.ensures

pub step_map-map-requires : goal.step_map-map-requires
step_map-map-requires g c =
    subst (λ n. NamedHasMap g.C.Change.means n) (sym c.step-item.is) (c.requires.maps c.loop-step.step-index c.step-item.result c.loop-step-test.true)

pub push-requires : goal.push-requires
push-requires g c =
    let fit = c.requires.fit in
    rw c.step_map-map.ensures
    (one-small g.C.Change.means c.args.steps.now c.loop-step.step-index c.step-item.result c.loop-step-test.true c.step-item.is c.loop-step.route c.loop-step.invariant fit.0 fit.1 fit.2)

pub loop-step-preserved : goal.loop-step-preserved
loop-step-preserved g c =
    one-pushed g.C.Change.means c.args.steps.now c.loop-step.step-index c.step-item.result c.loop-step-test.true c.step-item.is c.loop-step.route c.loop-step.invariant c.push.new.self
    (rw c.step_map-map.ensures at c.in_ok-push.ensures)

pub returns : goal.returns
returns g c = λ n k fits.
    let i = c.loop-step.step-index in
    all-pushed g.C.Change.means c.args.steps.now i c.loop-step.route (drop_all i c.args.steps.now c.loop-step-test.false) c.loop-step.invariant n k fits
