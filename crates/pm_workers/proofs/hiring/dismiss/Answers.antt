use Rattle.std.proofs.Common.{refl, sym, ap, map, ◌∙◌, arith}
use Rattle.std.proofs.lemmas.Iterator.Adapters.{YieldsList-from_vec}
use Rattle.std.proofs.lemmas.Iterator.Consumers.{YieldsList-end}
use Rattle.pm_workers.proofs.Unused.{same-items}
use Rattle.pm_workers.proofs.Zipped.{more-given}
use Rattle.pm_workers.proofs.hiring.dismiss.Goals as goal

pub loop-worker-preserved : goal.loop-worker-preserved
loop-worker-preserved g c =
    let i = c.loop-worker.invariant in
    record {
      members = more-given (λ w. w.member) _ _ _ _ _ c.in_ok-push.ensures.items refl i.members;
      seats = more-given (λ w. w.seat) _ _ _ _ _ c.in_ok-push-2.ensures.items refl i.seats;
      lines = more-given (λ w. w.lines) _ _ _ _ _ c.in_ok-push-3.ensures.items refl i.lines;
      outcomes = more-given (λ w. w.outcomes) _ _ _ _ _ c.in_ok-push-4.ensures.items refl i.outcomes;
    }

pub returns-clause-members : goal.returns-clause-members
returns-clause-members g c =
    let t = YieldsList-end (YieldsList-from_vec {s = c.into_iter-worker-iterator.result} c.args.workers.items (cc) (omega arith)) c.loop-worker.yielded c.loop-worker.worker-iterator c.loop-worker.yielded_by c.next.result c.next.new.self c.in-None.is c.next.ensures.steps in
    c.loop-worker.invariant.members ∙ ap (map (λ w. w.member)) (sym (same-items c.loop-worker.yielded) ∙ t.0)

pub returns-clause-seats : goal.returns-clause-seats
returns-clause-seats g c =
    let t = YieldsList-end (YieldsList-from_vec {s = c.into_iter-worker-iterator.result} c.args.workers.items (cc) (omega arith)) c.loop-worker.yielded c.loop-worker.worker-iterator c.loop-worker.yielded_by c.next.result c.next.new.self c.in-None.is c.next.ensures.steps in
    c.loop-worker.invariant.seats ∙ ap (map (λ w. w.seat)) (sym (same-items c.loop-worker.yielded) ∙ t.0)

pub returns-clause-lines : goal.returns-clause-lines
returns-clause-lines g c =
    let t = YieldsList-end (YieldsList-from_vec {s = c.into_iter-worker-iterator.result} c.args.workers.items (cc) (omega arith)) c.loop-worker.yielded c.loop-worker.worker-iterator c.loop-worker.yielded_by c.next.result c.next.new.self c.in-None.is c.next.ensures.steps in
    c.loop-worker.invariant.lines ∙ ap (map (λ w. w.lines)) (sym (same-items c.loop-worker.yielded) ∙ t.0)

pub returns-clause-outcomes : goal.returns-clause-outcomes
returns-clause-outcomes g c =
    let t = YieldsList-end (YieldsList-from_vec {s = c.into_iter-worker-iterator.result} c.args.workers.items (cc) (omega arith)) c.loop-worker.yielded c.loop-worker.worker-iterator c.loop-worker.yielded_by c.next.result c.next.new.self c.in-None.is c.next.ensures.steps in
    c.loop-worker.invariant.outcomes ∙ ap (map (λ w. w.outcomes)) (sym (same-items c.loop-worker.yielded) ∙ t.0)
