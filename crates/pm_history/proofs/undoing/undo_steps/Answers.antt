use Rattle.std.proofs.Common.{◌≡◌, ◌+◌, ◌++◌, drop, ap, subst, sym, ◌∙◌}
use Rattle.pm_map.specs.Fits.{FitBetween}
use Rattle.pm_history.specs.Pairs.{paired}
use Rattle.pm_history.specs.Tries.{put_one}
use Rattle.pm_history.specs.Undos.{tried}
use Rattle.pm_history.proofs.Leading.{drop-next}
use Rattle.pm_history.proofs.Showing.{shows-fit}
use Rattle.pm_history.proofs.Steps.{end-good, next-may, next-same, first-may}
use Rattle.pm_history.proofs.undoing.undo_steps.Goals as goal

pub carried-requires : goal.carried-requires
carried-requires g c =
    let m = g.C.Change.means in
    let rules = c.args.rules.now in
    let w = c.loop-step.undone in
    let i = c.loop-step.step-index in
    let is = c.args.later.now ++ w.items in
    let b = c.step-item.result in
    let h = first-may m rules c.args.client (drop i c.args.steps.now) b (drop (i + 1) c.args.steps.now) is w.doc (drop-next c.args.steps.now i b c.step-item.is c.loop-step-test.true) c.loop-step.invariant.may in (
      m.size h.base,
      (
        m.size w.doc,
        (
          subst (λ xs. FitBetween (paired (c.args.later.now ++ xs)) (m.size h.base) (m.size w.doc)) (sym c.as_slice.ensures)
              (shows-fit m rules g.met.C.Change.laws h.base w.doc is h.good h.shows),
          h.within.0,
        ),
      ),
    )

pub make_one-requires : goal.make_one-requires
make_one-requires g c = record {
  good = end-good g.C.Change.means c.args.rules.now g.met.C.Change.laws (drop c.loop-step.step-index c.args.steps.now) (c.args.later.now ++ c.loop-step.undone.items) c.loop-step.undone.doc c.loop-step.invariant.may;
}

pub loop-step-preserved : goal.loop-step-preserved
loop-step-preserved g c =
    let i = c.loop-step.step-index in
    let b = c.step-item.result in
    let e = drop-next c.args.steps.now i b c.step-item.is c.loop-step-test.true in
    let m = g.C.Change.means in
    let rules = c.args.rules.now in
    let later = c.args.later.now in
    let known = c.loop-step.invariant in
    let w = c.loop-step.undone in
    let v = c.in_ok-undone.undone in
    let carried = c.in_ok-carried.ensures ∙ ap (λ xs. m.carry b (paired (later ++ xs))) c.as_slice.ensures in
    let made = subst (λ o. v ≡ put_one m rules c.args.client (tried m rules c.args.client o w.doc) c.args.name w) carried c.in_ok-undone.ensures in
    record {
      may = next-may m rules c.args.client (drop i c.args.steps.now) c.args.name b (drop (i + 1) c.args.steps.now) later w v e made known.may;
      same = known.same ∙ next-same m rules c.args.client (drop i c.args.steps.now) c.args.name b (drop (i + 1) c.args.steps.now) later w v e made;
    }
