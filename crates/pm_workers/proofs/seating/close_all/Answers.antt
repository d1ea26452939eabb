use Rattle.std.proofs.Common.{◌≡◌, map, sym, ap, ◌∙◌, subst, arith}
use mathlib.Core.Option.{some}
use lib.ListN.{get_elem?}
use Rattle.std.proofs.lemmas.Iterator.Adapters.{YieldsList-from_vec}
use Rattle.std.proofs.lemmas.Iterator.Consumers.{YieldsList-end}
use Rattle.pm_workers.specs.Seatings.{as_joined}
use Rattle.pm_workers.proofs.Loops.{whole-seats}
use Rattle.pm_workers.proofs.Unused.{same-items, all-covered, joined-within}
use Rattle.pm_workers.proofs.seating.close_all.Goals as goal

pub returns-clause-seats : goal.returns-clause-seats
returns-clause-seats g c =
    let t = YieldsList-end (YieldsList-from_vec {s = c.into_iter-seat-iterator.result} c.args.seats.items (cc) (omega arith)) c.loop-seat.yielded c.loop-seat.seat-iterator c.loop-seat.yielded_by c.next.result c.next.new.self c.in-None.is c.next.ensures.steps in
    let all : c.loop-seat.yielded ≡ c.args.seats.items = sym (same-items c.loop-seat.yielded) ∙ t.0 in
    all-covered c.close.result.history.items c.loop-seat.first.joined c.args.seats.items (c.loop-seat.invariant.joined ∙ ap (λ l. map as_joined l) all) c.close.ensures.history.joined

pub returns-clause-callers : goal.returns-clause-callers
returns-clause-callers g c n some_one within =
    let t = YieldsList-end (YieldsList-from_vec {s = c.into_iter-seat-iterator.result} c.args.seats.items (cc) (omega arith)) c.loop-seat.yielded c.loop-seat.seat-iterator c.loop-seat.yielded_by c.next.result c.next.new.self c.in-None.is c.next.ensures.steps in
    let all : c.loop-seat.yielded ≡ c.args.seats.items = sym (same-items c.loop-seat.yielded) ∙ t.0 in
    let joined : c.loop-seat.first.joined ≡ map as_joined c.args.seats.items = c.loop-seat.invariant.joined ∙ ap (λ l. map as_joined l) all in
    whole-seats _ c.loop-seat.first c.close.result.history.items n some_one (λ j x at. joined-within n c.args.seats.items within j x (subst (λ l. get_elem? l j ≡ some x) joined at)) c.close.ensures.history
