use Rattle.std.proofs.Common.{◌≡◌, [], All, map, refl, sym, ap, ◌∙◌, subst, arith}
use Rattle.std.proofs.lemmas.Iterator.Adapters.{YieldsList-from_vec}
use Rattle.std.proofs.lemmas.Iterator.Consumers.{YieldsList-end}
use Rattle.std.proofs.lemmas.List.Elements.{All-push}
use Rattle.pm_workers.proofs.Unused.{same-items}
use Rattle.pm_workers.proofs.Zipped.{more-of}
use Rattle.pm_rooms.proofs.parting.idle_workers.Goals as goal

pub loop-stand-preserved : goal.loop-stand-preserved
loop-stand-preserved g c =
    let i = c.loop-stand.invariant in
    let is = c.in_ok-push.ensures.items in
    record {
      members = more-of (λ w. w.member) (λ x. x.member) _ _ _ _ _ is refl i.members;
      seats = more-of (λ w. w.seat) (λ x. x.seat) _ _ _ _ _ is refl i.seats;
      idle = subst (λ l. All (λ w. w.lines.items ≡ [] × w.outcomes.items ≡ []) l) (sym is) (All-push (λ w. w.lines.items ≡ [] × w.outcomes.items ≡ []) c.loop-stand.workers.items _ i.idle (c.new.ensures.items, c.new-in-loop-stand.ensures.items));
    }

pub returns-clause-members : goal.returns-clause-members
returns-clause-members g c =
    let t = YieldsList-end (YieldsList-from_vec {s = c.into_iter-stand-iterator.result} c.args.stands.items (cc) (omega arith)) c.loop-stand.yielded c.loop-stand.stand-iterator c.loop-stand.yielded_by c.next.result c.next.new.self c.in-None.is c.next.ensures.steps in
    c.loop-stand.invariant.members ∙ ap (map (λ x. x.member)) (sym (same-items c.loop-stand.yielded) ∙ t.0)

pub returns-clause-seats : goal.returns-clause-seats
returns-clause-seats g c =
    let t = YieldsList-end (YieldsList-from_vec {s = c.into_iter-stand-iterator.result} c.args.stands.items (cc) (omega arith)) c.loop-stand.yielded c.loop-stand.stand-iterator c.loop-stand.yielded_by c.next.result c.next.new.self c.in-None.is c.next.ensures.steps in
    c.loop-stand.invariant.seats ∙ ap (map (λ x. x.seat)) (sym (same-items c.loop-stand.yielded) ∙ t.0)
