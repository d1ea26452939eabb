use Rattle.std.proofs.Common.{◌+◌, drop, ap, ◌∙◌}
use Rattle.std.proofs.lemmas.List.{drop_all}
use Rattle.pm_authors.specs.Runs.{spelled, tokens_of}
use Rattle.pm_authors.specs.Authors.{authors_of}
use Rattle.pm_authors.proofs.Logs.{at-named, one-room, one-on, told, whole-document}
use Rattle.pm_authors.proofs.telling.authors.Goals as goal

pub after_step-requires : goal.after_step-requires
after_step-requires g c =
    let m = g.C.Change.means in
    let i = c.loop-step.step-index in
    let n = c.step-item.result in
    let steps = c.args.steps.now in
    let xs = spelled c.loop-step.runs in
    let all = authors_of m steps c.args.size in
    one-room m g.met.C.Change.laws n (drop (i + 1) steps) xs (spelled c.as_slice.result.now) all c.step_map-map.result c.step_map-map.ensures (ap spelled c.as_slice.ensures)
    (at-named m steps i n xs all c.loop-step-test.true c.step-item.is c.loop-step.invariant.way)

pub loop-step-preserved : goal.loop-step-preserved
loop-step-preserved g c =
    let m = g.C.Change.means in
    let i = c.loop-step.step-index in
    let n = c.step-item.result in
    let steps = c.args.steps.now in
    let xs = spelled c.loop-step.runs in
    let all = authors_of m steps c.args.size in
    record {
      way = one-on m g.met.C.Change.laws n (drop (i + 1) steps) xs (spelled c.as_slice.result.now) (spelled c.in_ok-runs.runs) all c.step_map-map.result c.step_map-map.ensures (ap spelled c.as_slice.ensures)
          c.in_ok-runs.ensures.tokens (at-named m steps i n xs all c.loop-step-test.true c.step-item.is c.loop-step.invariant.way);
      maximal = c.in_ok-runs.ensures.maximal;
    }

pub returns-clause-runs : goal.returns-clause-runs
returns-clause-runs g c =
    let m = g.C.Change.means in
    let i = c.loop-step.step-index in
    let steps = c.args.steps.now in
    c.into_vec.ensures
    ∙ told m steps i c.loop-step.runs (authors_of m steps c.args.size) (drop_all i steps c.loop-step-test.false) c.loop-step.invariant.way c.loop-step.invariant.maximal

pub returns-clause-whole : goal.returns-clause-whole
returns-clause-whole g c =
    let m = g.C.Change.means in
    let i = c.loop-step.step-index in
    let steps = c.args.steps.now in
    λ f. ap tokens_of c.into_vec.ensures
    ∙ whole-document m g.met.C.Change.laws steps c.args.size i c.loop-step.runs (drop_all i steps c.loop-step-test.false) c.loop-step.invariant.way f
