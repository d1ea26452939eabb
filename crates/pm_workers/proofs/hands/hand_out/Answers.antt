use Rattle.std.proofs.Common.{rules, ◌≡◌, ◌<◌, length, sym, ap, ◌∙◌, subst, arith}
use Rattle.std.proofs.lemmas.Iterator.Adapters.{YieldsList-from_vec}
use Rattle.std.proofs.lemmas.Iterator.Consumers.{YieldsList-end, YieldsList-turn}
use Rattle.pm_workers.specs.Threads.{own_lines}
use Rattle.pm_workers.proofs.Unused.{same-items}
use Rattle.pm_workers.proofs.Handing.{handed-next}
use Rattle.pm_workers.proofs.hands.hand_out.Goals as goal

pub loop-line-preserved : goal.loop-line-preserved
loop-line-preserved g c =
    let turn = YieldsList-turn (YieldsList-from_vec {s = c.into_iter-line-iterator.result} c.args.lines.items (cc) (omega arith)) c.loop-line.yielded c.loop-line.line-iterator c.loop-line.yielded_by c.next.result c.next.new.self c.in-Some.line c.in-Some.is c.next.ensures.steps in
    let of_client : c.in-Some.line.client < c.args.count = subst (λ x. x.client < c.args.count) (sym turn.1) (c.requires (length c.loop-line.yielded) c.in-Some.line turn.0) in
    let within : c.in-Some.line.client < length c.loop-line.hands.items = omega (arith, of_client, c.loop-line.invariant.count, c.loop-line.hands.ok) in
    record {
      count = search rules;
      own = handed-next (λ v. v.items) c.loop-line.yielded c.in-Some.line c.loop-line.hands.items c.index_mut.result.now c.push.new.self within (search rules) (search rules) c.loop-line.invariant.own;
    }

pub returns-clause-own : goal.returns-clause-own
returns-clause-own g c =
    let t = YieldsList-end (YieldsList-from_vec {s = c.into_iter-line-iterator.result} c.args.lines.items (cc) (omega arith)) c.loop-line.yielded c.loop-line.line-iterator c.loop-line.yielded_by c.next.result c.next.new.self c.in-None.is c.next.ensures.steps in
    let all : c.loop-line.yielded ≡ c.args.lines.items = sym (same-items c.loop-line.yielded) ∙ t.0 in
    λ i own at. c.loop-line.invariant.own i own at ∙ ap (λ l. own_lines i l) all
