use Rattle.std.proofs.Common.{◌+◌, ◌-◌, [], length, arith, ap, ◌∙◌}
use Rattle.std.proofs.lemmas.Result.{err_from_is_err_and}
use Rattle.pm_tokens.specs.Schemas.{compatible}
use Rattle.pm_tokens.specs.Scan.{owned}
use Rattle.pm_schema.specs.Documents.{documents_of}
use Rattle.pm_replace.proofs.FedSplices.{end-is, end-within}
use Rattle.pm_apply.proofs.FedAround.{around_of, in-five, splice_err, refused-1, refused-2, refused-3, refused-4, refused-5, length-1, length-2, length-3, length-4, all-fed, around-ended, part-at-most}
use Rattle.pm_apply.proofs.around.splice_around.Goals as goal

pub overflow_add-middle : goal.overflow_add-middle
overflow_add-middle c =
    let sl = c.args.slice.now in
    omega (arith, c.requires.placed.insert, end-is sl c.size-added.ensures.slice, end-within sl c.size-added.ensures.slice, c.open_start-start.ensures.side, c.size-added.ensures.size, c.size.ensures.size, c.size.ensures.bound, ap length c.content-inner.ensures)

pub overflow_add-end : goal.overflow_add-end
overflow_add-end c =
    let sl = c.args.slice.now in
    omega (arith, end-is sl c.size-added.ensures.slice, end-within sl c.size-added.ensures.slice, c.open_start-start.ensures.side, c.size-added.ensures.size, c.size.ensures.size, c.size.ensures.bound, ap length c.content-inner.ensures)

pub feed-requires : goal.feed-requires
feed-requires c = omega (arith, c.requires.room, c.requires.placed.before, c.requires.placed.gap, c.requires.placed.behind, c.requires.placed.within, ap length c.new-builder.ensures)

pub returns-in_err-feed : goal.returns-in_err-feed
returns-in_err-feed c =
    let k = compatible (documents_of c.args.schema.now.spec) in
    let r = in-five c.args.content.now c.args.ends c.args.slice.now c.content-inner.result.now c.open_start-start.result c.size-added.result c.size-size.result
    c.size-added.ensures.slice c.requires.placed.insert c.content-inner.ensures c.open_start-start.ensures.side c.size-added.ensures.size c.size-size.ensures.size in
    let p = err_from_is_err_and c.from_residual.result c.from_residual.ensures.1 in
    splice_err k (around_of c.args.content.now c.args.ends c.args.slice.now) _ _ _ _ p.1 p.2 c.in_err-feed.ensures
    (refused-1 k r c.new-builder.result c.new-builder.ensures)

pub feed-requires-2 : goal.feed-requires-2
feed-requires-2 c =
    let k = compatible (documents_of c.args.schema.now.spec) in
    let r = in-five c.args.content.now c.args.ends c.args.slice.now c.content-inner.result.now c.open_start-start.result c.size-added.result c.size-size.result
    c.size-added.ensures.slice c.requires.placed.insert c.content-inner.ensures c.open_start-start.ensures.side c.size-added.ensures.size c.size-size.ensures.size in
    let own = owned [] c.args.content.now in
    let n₁ = part-at-most 0 c.args.ends.from c.args.ends.from own (omega arith) in
    let l = length-1 k r c.new-builder.result c.new-builder.ensures c.feed.new.self c.in_ok-feed.ensures in
    omega (arith, l, n₁, c.requires.room, c.requires.placed.insert, c.size-added.ensures.size, c.size-size.ensures.size)

pub returns-in_err-feed-2 : goal.returns-in_err-feed-2
returns-in_err-feed-2 c =
    let k = compatible (documents_of c.args.schema.now.spec) in
    let r = in-five c.args.content.now c.args.ends c.args.slice.now c.content-inner.result.now c.open_start-start.result c.size-added.result c.size-size.result
    c.size-added.ensures.slice c.requires.placed.insert c.content-inner.ensures c.open_start-start.ensures.side c.size-added.ensures.size c.size-size.ensures.size in
    let p = err_from_is_err_and c.from_residual-in_err-feed-2.result c.from_residual-in_err-feed-2.ensures.1 in
    splice_err k (around_of c.args.content.now c.args.ends c.args.slice.now) _ _ _ _ p.1 p.2 c.in_err-feed-2.ensures
    (refused-2 k r c.new-builder.result c.new-builder.ensures c.feed.new.self c.in_ok-feed.ensures)

pub feed-requires-3 : goal.feed-requires-3
feed-requires-3 c =
    let k = compatible (documents_of c.args.schema.now.spec) in
    let r = in-five c.args.content.now c.args.ends c.args.slice.now c.content-inner.result.now c.open_start-start.result c.size-added.result c.size-size.result
    c.size-added.ensures.slice c.requires.placed.insert c.content-inner.ensures c.open_start-start.ensures.side c.size-added.ensures.size c.size-size.ensures.size in
    let own = owned [] c.args.content.now in
    let mid = owned [] c.content-inner.result.now in
    let start = c.open_start-start.result in
    let n₁ = part-at-most 0 c.args.ends.from c.args.ends.from own (omega arith) in
    let n₂ = part-at-most start (start + c.args.ends.insert) c.args.ends.insert mid (omega arith) in
    let l = length-2 k r c.new-builder.result c.new-builder.ensures c.feed.new.self c.in_ok-feed.ensures c.feed-2.new.self c.in_ok-feed-2.ensures in
    omega (arith, l, n₁, n₂, c.requires.room, c.requires.placed.insert, c.size-added.ensures.size, c.size-size.ensures.size)

pub returns-in_err-feed-3 : goal.returns-in_err-feed-3
returns-in_err-feed-3 c =
    let k = compatible (documents_of c.args.schema.now.spec) in
    let r = in-five c.args.content.now c.args.ends c.args.slice.now c.content-inner.result.now c.open_start-start.result c.size-added.result c.size-size.result
    c.size-added.ensures.slice c.requires.placed.insert c.content-inner.ensures c.open_start-start.ensures.side c.size-added.ensures.size c.size-size.ensures.size in
    let p = err_from_is_err_and c.from_residual-in_err-feed-3.result c.from_residual-in_err-feed-3.ensures.1 in
    splice_err k (around_of c.args.content.now c.args.ends c.args.slice.now) _ _ _ _ p.1 p.2 c.in_err-feed-3.ensures
    (refused-3 k r c.new-builder.result c.new-builder.ensures c.feed.new.self c.in_ok-feed.ensures c.feed-2.new.self c.in_ok-feed-2.ensures)

pub feed-requires-4 : goal.feed-requires-4
feed-requires-4 c =
    let k = compatible (documents_of c.args.schema.now.spec) in
    let r = in-five c.args.content.now c.args.ends c.args.slice.now c.content-inner.result.now c.open_start-start.result c.size-added.result c.size-size.result
    c.size-added.ensures.slice c.requires.placed.insert c.content-inner.ensures c.open_start-start.ensures.side c.size-added.ensures.size c.size-size.ensures.size in
    let own = owned [] c.args.content.now in
    let mid = owned [] c.content-inner.result.now in
    let start = c.open_start-start.result in
    let n₁ = part-at-most 0 c.args.ends.from c.args.ends.from own (omega arith) in
    let n₂ = part-at-most start (start + c.args.ends.insert) c.args.ends.insert mid (omega arith) in
    let n₃ = part-at-most c.args.ends.gap_from c.args.ends.gap_to (c.args.ends.gap_to - c.args.ends.gap_from) own (omega arith) in
    let l = length-3 k r c.new-builder.result c.new-builder.ensures c.feed.new.self c.in_ok-feed.ensures c.feed-2.new.self c.in_ok-feed-2.ensures c.feed-3.new.self c.in_ok-feed-3.ensures in
    omega (arith, l, n₁, n₂, n₃, c.requires.room, c.requires.placed.insert, c.size-added.ensures.size, c.size-size.ensures.size)

pub returns-in_err-feed-4 : goal.returns-in_err-feed-4
returns-in_err-feed-4 c =
    let k = compatible (documents_of c.args.schema.now.spec) in
    let r = in-five c.args.content.now c.args.ends c.args.slice.now c.content-inner.result.now c.open_start-start.result c.size-added.result c.size-size.result
    c.size-added.ensures.slice c.requires.placed.insert c.content-inner.ensures c.open_start-start.ensures.side c.size-added.ensures.size c.size-size.ensures.size in
    let p = err_from_is_err_and c.from_residual-in_err-feed-4.result c.from_residual-in_err-feed-4.ensures.1 in
    splice_err k (around_of c.args.content.now c.args.ends c.args.slice.now) _ _ _ _ p.1 p.2 c.in_err-feed-4.ensures
    (refused-4 k r c.new-builder.result c.new-builder.ensures c.feed.new.self c.in_ok-feed.ensures c.feed-2.new.self c.in_ok-feed-2.ensures c.feed-3.new.self c.in_ok-feed-3.ensures)

pub feed-requires-5 : goal.feed-requires-5
feed-requires-5 c =
    let k = compatible (documents_of c.args.schema.now.spec) in
    let r = in-five c.args.content.now c.args.ends c.args.slice.now c.content-inner.result.now c.open_start-start.result c.size-added.result c.size-size.result
    c.size-added.ensures.slice c.requires.placed.insert c.content-inner.ensures c.open_start-start.ensures.side c.size-added.ensures.size c.size-size.ensures.size in
    let own = owned [] c.args.content.now in
    let mid = owned [] c.content-inner.result.now in
    let start = c.open_start-start.result in
    let n₁ = part-at-most 0 c.args.ends.from c.args.ends.from own (omega arith) in
    let n₂ = part-at-most start (start + c.args.ends.insert) c.args.ends.insert mid (omega arith) in
    let n₃ = part-at-most c.args.ends.gap_from c.args.ends.gap_to (c.args.ends.gap_to - c.args.ends.gap_from) own (omega arith) in
    let n₄ = part-at-most (start + c.args.ends.insert) (start + c.size-added.result) (c.size-added.result - c.args.ends.insert) mid (omega arith) in
    let l = length-4 k r c.new-builder.result c.new-builder.ensures c.feed.new.self c.in_ok-feed.ensures c.feed-2.new.self c.in_ok-feed-2.ensures c.feed-3.new.self c.in_ok-feed-3.ensures c.feed-4.new.self c.in_ok-feed-4.ensures in
    omega (arith, l, n₁, n₂, n₃, n₄, c.requires.room, c.requires.placed.insert, c.size-added.ensures.size, c.size-size.ensures.size)

pub returns-in_err-feed-5 : goal.returns-in_err-feed-5
returns-in_err-feed-5 c =
    let k = compatible (documents_of c.args.schema.now.spec) in
    let r = in-five c.args.content.now c.args.ends c.args.slice.now c.content-inner.result.now c.open_start-start.result c.size-added.result c.size-size.result
    c.size-added.ensures.slice c.requires.placed.insert c.content-inner.ensures c.open_start-start.ensures.side c.size-added.ensures.size c.size-size.ensures.size in
    let p = err_from_is_err_and c.from_residual-in_err-feed-5.result c.from_residual-in_err-feed-5.ensures.1 in
    splice_err k (around_of c.args.content.now c.args.ends c.args.slice.now) _ _ _ _ p.1 p.2 c.in_err-feed-5.ensures
    (refused-5 k r c.new-builder.result c.new-builder.ensures c.feed.new.self c.in_ok-feed.ensures c.feed-2.new.self c.in_ok-feed-2.ensures c.feed-3.new.self c.in_ok-feed-3.ensures c.feed-4.new.self c.in_ok-feed-4.ensures)

pub finish-requires : goal.finish-requires
finish-requires c =
    let k = compatible (documents_of c.args.schema.now.spec) in
    let r = in-five c.args.content.now c.args.ends c.args.slice.now c.content-inner.result.now c.open_start-start.result c.size-added.result c.size-size.result
    c.size-added.ensures.slice c.requires.placed.insert c.content-inner.ensures c.open_start-start.ensures.side c.size-added.ensures.size c.size-size.ensures.size in
    around-ended k c.args.content.now c.args.ends c.args.slice.now c.size-size.ensures.whole c.requires.placed _
    (all-fed k r c.new-builder.result c.new-builder.ensures c.feed.new.self c.in_ok-feed.ensures c.feed-2.new.self c.in_ok-feed-2.ensures c.feed-3.new.self c.in_ok-feed-3.ensures c.feed-4.new.self c.in_ok-feed-4.ensures c.feed-5.new.self c.in_ok-feed-5.ensures)

pub returns : goal.returns
returns c =
    let k = compatible (documents_of c.args.schema.now.spec) in
    let r = in-five c.args.content.now c.args.ends c.args.slice.now c.content-inner.result.now c.open_start-start.result c.size-added.result c.size-size.result
    c.size-added.ensures.slice c.requires.placed.insert c.content-inner.ensures c.open_start-start.ensures.side c.size-added.ensures.size c.size-size.ensures.size in
    let a = all-fed k r c.new-builder.result c.new-builder.ensures c.feed.new.self c.in_ok-feed.ensures c.feed-2.new.self c.in_ok-feed-2.ensures c.feed-3.new.self c.in_ok-feed-3.ensures c.feed-4.new.self c.in_ok-feed-4.ensures c.feed-5.new.self c.in_ok-feed-5.ensures in
    (a.joined, c.finish.ensures ∙ a.tokens)
