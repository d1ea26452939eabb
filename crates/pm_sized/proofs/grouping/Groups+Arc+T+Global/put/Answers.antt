use Rattle.std.proofs.Common.{◌≡◌, ◌++◌, length, ap, ◌∙◌, arith}
use Rattle.std.specs.Arc.{arc_value}
use Rattle.std.proofs.lemmas.Result.{on_ok_weaker, on_err_weaker}
use Rattle.pm_sized.specs.Pairs.{total_of, chunk_pairs}
use Rattle.pm_sized.specs.Parts.{part, values_in, chunk_values, group_values}
use Rattle.pm_sized.proofs.PartLaws.{total-values}
use Rattle.pm_sized.proofs.FindLaws.{chunk-size}
use Rattle.pm_sized.proofs.GrowLaws.{on_err_of}
use Rattle.pm_sized.proofs.PuttingLaws.{first-none, room-first, room-second, only-first, both}
use Rattle.pm_sized.proofs.grouping.Groups+Arc+T+Global.put.Goals as goal

pub run-requires-clause-bound : goal.run-requires-clause-bound
run-requires-clause-bound g c =
    let v = arc_value c.args.chunk in
    omega (arith, c.requires.room, ap (λ z. z.size) c.deref-2.ensures, chunk-size v c.requires.chunk.counted, total-values (chunk_pairs v))

pub run-requires-2-clause-bound : goal.run-requires-2-clause-bound
run-requires-2-clause-bound g c =
    let v = arc_value c.args.chunk in
    omega (arith, c.requires.room, ap (λ z. z.size) c.deref-3.ensures, chunk-size v c.requires.chunk.counted, total-values (chunk_pairs v))

pub returns-in_err-second-clause-err : goal.returns-in_err-second-clause-err
returns-in_err-second-clause-err g c =
    let V = chunk_values (arc_value c.args.chunk) in
    on_err_of c.from_residual-in_err-second.result (first-none (group_values c.args.self.now) V (group_values c.close.new.self) 0 (length V) (omega arith) (ap values_in c.in_ok-close.ensures.same))

pub put_small-requires-2-clause-room : goal.put_small-requires-2-clause-room
put_small-requires-2-clause-room g c =
    let v = arc_value c.args.chunk in
    let count = c.len-count.result in
    let count-is : count ≡ length v.items.items = c.len-count.ensures ∙ (c.deref.result.now.items.ok.0 ∙ ap (λ z. length z.items.items) c.deref.ensures) in
    let one : chunk_values (arc_value c.in_ok-first.first) ≡ part 0 32 (chunk_values v) = c.in_ok-first.ensures.values ∙ ap (λ z. part 0 32 (chunk_values z)) c.deref-2.ensures in
    let room = room-first (group_values c.args.self.now) v (arc_value c.in_ok-first.first) v count c.requires.chunk count-is (omega (arith, c.if-count-le-CHUNK.false)) one c.requires.room in
    omega (arith, room, ap (λ z. total_of (values_in z)) c.in_ok-close.ensures.same)

pub returns-in_err-put_small-clause-err : goal.returns-in_err-put_small-clause-err
returns-in_err-put_small-clause-err g c =
    let V = chunk_values (arc_value c.args.chunk) in
    on_err_of c.from_residual-in_err-put_small.result (first-none (group_values c.args.self.now) V (group_values c.put_small-2.new.self) 0 (length V) (omega arith) (c.in_err-put_small.ensures.err ∙ ap values_in c.in_ok-close.ensures.same))

pub put_small-requires-3-clause-room : goal.put_small-requires-3-clause-room
put_small-requires-3-clause-room g c =
    let v = arc_value c.args.chunk in
    let one = arc_value c.in_ok-first.first in
    let count = c.len-count.result in
    let count-is : count ≡ length v.items.items = c.len-count.ensures ∙ (c.deref.result.now.items.ok.0 ∙ ap (λ z. length z.items.items) c.deref.ensures) in
    let first : chunk_values one ≡ part 0 32 (chunk_values v) = c.in_ok-first.ensures.values ∙ ap (λ z. part 0 32 (chunk_values z)) c.deref-2.ensures in
    let second = c.in_ok-second.ensures.values ∙ ap (λ z. part 32 count (chunk_values z)) c.deref-3.ensures in
    let now : group_values c.put_small-2.new.self ≡ group_values c.args.self.now ++ chunk_values one =
    c.in_ok-put_small.ensures.ok ∙ ap (λ z. values_in z ++ chunk_values one) c.in_ok-close.ensures.same in
    room-second (group_values c.args.self.now) v one (arc_value c.in_ok-second.second) count c.requires.chunk count-is (omega (arith, c.if-count-le-CHUNK.false)) first (group_values c.put_small-2.new.self) now second c.requires.room

pub returns-clause-ok : goal.returns-clause-ok
returns-clause-ok g c =
    let v = arc_value c.args.chunk in
    let one = arc_value c.in_ok-first.first in
    let count = c.len-count.result in
    let count-is : count ≡ length v.items.items = c.len-count.ensures ∙ (c.deref.result.now.items.ok.0 ∙ ap (λ z. length z.items.items) c.deref.ensures) in
    let first : chunk_values one ≡ part 0 32 (chunk_values v) = c.in_ok-first.ensures.values ∙ ap (λ z. part 0 32 (chunk_values z)) c.deref-2.ensures in
    let second = c.in_ok-second.ensures.values ∙ ap (λ z. part 32 count (chunk_values z)) c.deref-3.ensures in
    let now : group_values c.put_small-2.new.self ≡ group_values c.args.self.now ++ chunk_values one =
    c.in_ok-put_small.ensures.ok ∙ ap (λ z. values_in z ++ chunk_values one) c.in_ok-close.ensures.same in
    on_ok_weaker c.put_small-3.result
    (both (group_values c.args.self.now) v one (arc_value c.in_ok-second.second) count c.requires.chunk count-is (omega (arith, c.if-count-le-CHUNK.false)) first (group_values c.put_small-2.new.self) now second (group_values c.put_small-3.new.self))
    c.put_small-3.ensures.ok

pub returns-clause-err : goal.returns-clause-err
returns-clause-err g c =
    let v = arc_value c.args.chunk in
    let one = arc_value c.in_ok-first.first in
    let count = c.len-count.result in
    let count-is : count ≡ length v.items.items = c.len-count.ensures ∙ (c.deref.result.now.items.ok.0 ∙ ap (λ z. length z.items.items) c.deref.ensures) in
    let first : chunk_values one ≡ part 0 32 (chunk_values v) = c.in_ok-first.ensures.values ∙ ap (λ z. part 0 32 (chunk_values z)) c.deref-2.ensures in
    let now : group_values c.put_small-2.new.self ≡ group_values c.args.self.now ++ chunk_values one =
    c.in_ok-put_small.ensures.ok ∙ ap (λ z. values_in z ++ chunk_values one) c.in_ok-close.ensures.same in
    on_err_weaker c.put_small-3.result
    (only-first (group_values c.args.self.now) v one v count c.requires.chunk count-is (omega (arith, c.if-count-le-CHUNK.false)) first (group_values c.put_small-2.new.self) (group_values c.put_small-3.new.self) now)
    c.put_small-3.ensures.err
