use Rattle.std.proofs.Common.{◌+◌, drop, sym, subst, ◌∙◌}
use Rattle.std.proofs.lemmas.List.{drop_all, with_items_is}
use Rattle.pm_anchors.specs.Anchors.{places}
use Rattle.pm_anchors.proofs.Places.{IsOnWay, map-had, at-step, on-way, one-room, one-led, arrived, all-within}
use Rattle.pm_anchors.proofs.anchoring.anchored.Goals as goal

pub loop-step-init : goal.loop-step-init
loop-step-init g c =
    let i = c.loop-anchor.anchor-index in
    on-way g.C.Change.means g.met.C.Change.laws c.args.steps.now c.args.anchors.now i c.loop-anchor.led.items (drop_all i c.args.anchors.now c.loop-anchor-test.false) c.loop-anchor.invariant c.requires

pub step_map-map-requires : goal.step_map-map-requires
step_map-map-requires g c =
    let m = g.C.Change.means in
    let i = c.loop-step.step-index in
    let steps = c.args.steps.now in
    let anchors = c.args.anchors.now in
    let all = places m steps anchors in
    map-had m c.step-item.result (drop (i + 1) steps) anchors c.loop-step.led.items all
    (at-step m steps i c.step-item.result anchors c.loop-step.led.items all c.loop-step-test.true c.step-item.is c.loop-step.invariant)

pub lead_all-requires : goal.lead_all-requires
lead_all-requires g c =
    let m = g.C.Change.means in
    let i = c.loop-step.step-index in
    let steps = c.args.steps.now in
    let anchors = c.args.anchors.now in
    let all = places m steps anchors in
    let r = one-room m c.step-item.result (drop (i + 1) steps) anchors c.loop-step.led.items c.as_mut_slice.result.now all c.step_map-map.result c.as_mut_slice.ensures.value c.step_map-map.ensures
    (at-step m steps i c.step-item.result anchors c.loop-step.led.items all c.loop-step-test.true c.step-item.is c.loop-step.invariant) in
    record { each = r.0; room = r.1 }

pub loop-step-preserved : goal.loop-step-preserved
loop-step-preserved g c =
    let m = g.C.Change.means in
    let i = c.loop-step.step-index in
    let steps = c.args.steps.now in
    let anchors = c.args.anchors.now in
    let all = places m steps anchors in
    let led = c.loop-step.led in
    let new = c.lead_all.new.places in
    let was = at-step m steps i c.step-item.result anchors led.items all c.loop-step-test.true c.step-item.is c.loop-step.invariant in
    let on =
    one-led m c.step-item.result (drop (i + 1) steps) anchors led.items c.as_mut_slice.result.now new all c.step_map-map.result c.as_mut_slice.ensures.value c.step_map-map.ensures c.lead_all.ensures was in
    let same = with_items_is led new (sym on.each ∙ was.each ∙ sym led.ok.0) in
    subst (λ ps. IsOnWay m (drop (i + 1) steps) anchors ps all) (sym same) on

pub returns : goal.returns
returns g c =
    let m = g.C.Change.means in
    let i = c.loop-step.step-index in
    let steps = c.args.steps.now in
    let anchors = c.args.anchors.now in
    let same = arrived m steps anchors i c.loop-step.led.items (places m steps anchors) (drop_all i steps c.loop-step-test.false) c.loop-step.invariant in
    record {
      places = same;
      within = λ f. all-within m g.met.C.Change.laws steps anchors f c.loop-step.led.items same;
    }
