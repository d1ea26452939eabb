use Rattle.std.proofs.Common.{◌≡◌, ℕ, ◌++◌, List, length, IfOk, ap, sym, ◌∙◌, subst, arith}
use Rattle.pm_sized.specs.Pairs.{built_pairs, total_of, chunk_pairs, many_pairs}
use Rattle.pm_sized.proofs.PairLaws.{few-front, total-front, item-counts, total_of-append, built-grown, pairs-grown, pairs-done}
use Rattle.pm_sized.proofs.FindLaws.{chunk-size}
use Rattle.pm_sized.proofs.many.Many.from_vec.Goals as goal

pub make_room-requires-clause-few : goal.make_room-requires-clause-few
make_room-requires-clause-few g c =
    let l = c.loop-item in
    few-front (built_pairs l.made l.tail) l.item-iterator.rest.items c.args.items.items l.invariant.3 c.requires.some c.requires.room

pub make_room-requires-clause-room : goal.make_room-requires-clause-room
make_room-requires-clause-room g c =
    let l = c.loop-item in
    omega (arith, total-front (built_pairs l.made l.tail) l.item-iterator.rest.items c.args.items.items l.invariant.3, c.requires.room)

pub push-requires-clause-some : goal.push-requires-clause-some
push-requires-clause-some g c =
    let l = c.loop-item in
    item-counts (built_pairs l.made l.tail) _ c.next.new.self.rest.items c.args.items.items
    (ap (λ z. built_pairs l.made l.tail ++ z) (sym c.in-Some.ensures.steps.0) ∙ l.invariant.3) c.requires.some

pub push-requires-clause-room : goal.push-requires-clause-room
push-requires-clause-room g c =
    let l = c.loop-item in
    let all = total-front (built_pairs l.made l.tail) l.item-iterator.rest.items c.args.items.items l.invariant.3 in
    let t = c.make_room.new.tail in
    let made = c.make_room.new.made in
    omega (arith, all, c.requires.room, ap total_of c.in-Some.ensures.steps.0, ap total_of c.in_ok-make_room.ensures.pairs, total_of-append (many_pairs made) (chunk_pairs t), chunk-size t c.in_ok-make_room.ensures.built.counted)

pub loop-item-preserved : goal.loop-item-preserved
loop-item-preserved g c =
    let l = c.loop-item in
    let r = c.in_ok-make_room.ensures in
    let made = c.make_room.new.made in
    let last = c.make_room.new.tail in (
      tt,
      tt,
      built-grown made last c.push.new.self c.in-Some.item c.in-Some.measure r.built r.fewer c.in_ok-push.ensures.ok,
      pairs-grown made last c.push.new.self c.in-Some.item c.in-Some.measure (built_pairs l.made l.tail) l.item-iterator.rest.items c.next.new.self.rest.items c.args.items.items
          c.in_ok-push.ensures.ok r.pairs c.in-Some.ensures.steps.0 l.invariant.3,
    )

pub finish-requires-clause-few : goal.finish-requires-clause-few
finish-requires-clause-few g c =
    let l = c.loop-item in
    few-front (built_pairs l.made l.tail) l.item-iterator.rest.items c.args.items.items l.invariant.3 c.requires.some c.requires.room

pub finish-requires-clause-room : goal.finish-requires-clause-room
finish-requires-clause-room g c =
    let l = c.loop-item in
    omega (arith, total-front (built_pairs l.made l.tail) l.item-iterator.rest.items c.args.items.items l.invariant.3, c.requires.room)

pub returns-clause-pairs : goal.returns-clause-pairs
returns-clause-pairs g c =
    let l = c.loop-item in
    let none : length l.item-iterator.rest.items ≡ 0 = omega (arith, c.in-None.ensures.steps.0, l.item-iterator.rest.ok.0) in
    let e : built_pairs l.made l.tail ≡ c.args.items.items = pairs-done (built_pairs l.made l.tail) l.item-iterator.rest.items c.args.items.items none l.invariant.3 in
    let P : List (_ × ℕ) → Type 0 = λ z. IfOk c.finish.result (λ k. many_pairs k ≡ z) in
    subst P e c.finish.ensures.pairs
