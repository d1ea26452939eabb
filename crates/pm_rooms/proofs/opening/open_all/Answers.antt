use Rattle.std.proofs.Common.{◌≡◌, ◌<◌, length, sym, ◌∙◌, subst, arith}
use Rattle.std.proofs.lemmas.Iterator.Adapters.{YieldsList-from_vec}
use Rattle.std.proofs.lemmas.Iterator.Consumers.{YieldsList-end, YieldsList-turn}
use Rattle.pm_workers.proofs.Unused.{same-items}
use Rattle.pm_rooms.specs.Openings.{AreOpened}
use Rattle.pm_rooms.specs.Opened.{CanOpen, IsDeskOf}
use Rattle.pm_rooms.proofs.Dealt.{matched-length}
use Rattle.pm_rooms.proofs.Openeds.{opened-more}
use Rattle.pm_rooms.proofs.opening.open_all.Goals as goal

pub open_one-requires-clause-few : goal.open_one-requires-clause-few
open_one-requires-clause-few g c =
    let turn = YieldsList-turn (YieldsList-from_vec {s = c.into_iter-room-iterator.result} c.args.rooms.items (cc) (omega arith)) c.loop-room.yielded c.loop-room.room-iterator c.loop-room.yielded_by c.next.result c.next.new.self c.in-Some.room c.in-Some.is c.next.ensures.steps in
    let lt : length c.loop-room.yielded < length c.args.rooms.items = turn.0 in
    let long : length c.loop-room.all.desks.items ≡ length c.loop-room.yielded = matched-length (λ room d. IsDeskOf g.C.Change.means room d) c.loop-room.yielded c.loop-room.all.desks.items c.loop-room.invariant.desks in
    omega (arith, lt, long, c.loop-room.all.desks.ok.0, c.args.rooms.ok.0, c.requires.few)

pub open_one-requires-clause-can : goal.open_one-requires-clause-can
open_one-requires-clause-can g c =
    let turn = YieldsList-turn (YieldsList-from_vec {s = c.into_iter-room-iterator.result} c.args.rooms.items (cc) (omega arith)) c.loop-room.yielded c.loop-room.room-iterator c.loop-room.yielded_by c.next.result c.next.new.self c.in-Some.room c.in-Some.is c.next.ensures.steps in
    subst (λ x. CanOpen g.C.Change.means x) (sym turn.1) (c.requires.can (length c.loop-room.yielded) c.in-Some.room turn.0)

pub loop-room-preserved : goal.loop-room-preserved
loop-room-preserved g c = opened-more g.C.Change.means c.loop-room.yielded c.loop-room.all _ c.in-Some.room c.loop-room.invariant c.in_ok-open_one.ensures

pub returns : goal.returns
returns g c =
    let t = YieldsList-end (YieldsList-from_vec {s = c.into_iter-room-iterator.result} c.args.rooms.items (cc) (omega arith)) c.loop-room.yielded c.loop-room.room-iterator c.loop-room.yielded_by c.next.result c.next.new.self c.in-None.is c.next.ensures.steps in
    subst (λ l. AreOpened g.C.Change.means l c.loop-room.all) (sym (same-items c.loop-room.yielded) ∙ t.0) c.loop-room.invariant
