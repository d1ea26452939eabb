use Rattle.std.proofs.Common.{length, arith, ap, ◌∙◌}
use Rattle.std.proofs.lemmas.Result.{err_from_is_err_and}
use Rattle.pm_tokens.specs.Schemas.{compatible}
use Rattle.pm_schema.specs.Documents.{documents_of}
use Rattle.pm_replace.proofs.FedSplices.{read, end-is, end-within, splice_err, refused-1, refused-2, refused-3, length-1, length-2, all-fed, none-open}
use Rattle.pm_replace.proofs.splicing.built.Goals as goal

pub overflow_add-end : goal.overflow_add-end
overflow_add-end c =
    let sl = c.args.slice.now in
    omega (arith, end-is sl c.size-added.ensures.slice, end-within sl c.size-added.ensures.slice, c.open_start-start.ensures.side, c.size-added.ensures.size, c.size.ensures.size, c.size.ensures.bound, ap length c.content-inner.ensures)

pub feed-requires : goal.feed-requires
feed-requires c = omega (arith, c.requires.room, ap length c.new-builder.ensures)

pub returns-in_err-feed : goal.returns-in_err-feed
returns-in_err-feed c =
    let k = compatible (documents_of c.args.schema.now.spec) in
    let r = read c.args.content.now c.args.slice.now c.content-inner.result.now c.open_start-start.result c.size-added.result c.size-size.result
    c.size-added.ensures.slice c.content-inner.ensures c.open_start-start.ensures.side c.size-added.ensures.size c.size-size.ensures.size in
    let p = err_from_is_err_and c.from_residual.result c.from_residual.ensures.1 in
    splice_err k c.args.from c.args.to r _ _ _ _ p.1 p.2 c.in_err-feed.ensures
    (refused-1 k c.args.from c.args.to r c.new-builder.result c.new-builder.ensures)

pub feed-requires-2 : goal.feed-requires-2
feed-requires-2 c =
    let k = compatible (documents_of c.args.schema.now.spec) in
    let r = read c.args.content.now c.args.slice.now c.content-inner.result.now c.open_start-start.result c.size-added.result c.size-size.result
    c.size-added.ensures.slice c.content-inner.ensures c.open_start-start.ensures.side c.size-added.ensures.size c.size-size.ensures.size in
    let one = length-1 k c.args.from c.args.to r c.new-builder.result c.new-builder.ensures c.feed.new.self c.in_ok-feed.ensures (omega (arith, c.requires.order, c.requires.within)) in
    omega (arith, one, c.requires.room, c.size-added.ensures.size)

pub returns-in_err-feed-2 : goal.returns-in_err-feed-2
returns-in_err-feed-2 c =
    let k = compatible (documents_of c.args.schema.now.spec) in
    let r = read c.args.content.now c.args.slice.now c.content-inner.result.now c.open_start-start.result c.size-added.result c.size-size.result
    c.size-added.ensures.slice c.content-inner.ensures c.open_start-start.ensures.side c.size-added.ensures.size c.size-size.ensures.size in
    let p = err_from_is_err_and c.from_residual-in_err-feed-2.result c.from_residual-in_err-feed-2.ensures.1 in
    splice_err k c.args.from c.args.to r _ _ _ _ p.1 p.2 c.in_err-feed-2.ensures
    (refused-2 k c.args.from c.args.to r c.new-builder.result c.new-builder.ensures c.feed.new.self c.in_ok-feed.ensures)

pub feed-requires-3 : goal.feed-requires-3
feed-requires-3 c =
    let k = compatible (documents_of c.args.schema.now.spec) in
    let r = read c.args.content.now c.args.slice.now c.content-inner.result.now c.open_start-start.result c.size-added.result c.size-size.result
    c.size-added.ensures.slice c.content-inner.ensures c.open_start-start.ensures.side c.size-added.ensures.size c.size-size.ensures.size in
    let two = length-2 k c.args.from c.args.to r c.new-builder.result c.new-builder.ensures c.feed.new.self c.in_ok-feed.ensures c.feed-2.new.self c.in_ok-feed-2.ensures (omega (arith, c.requires.order, c.requires.within)) in
    omega (arith, two, c.requires.room, c.size-added.ensures.size, c.size-size.ensures.size)

pub returns-in_err-feed-3 : goal.returns-in_err-feed-3
returns-in_err-feed-3 c =
    let k = compatible (documents_of c.args.schema.now.spec) in
    let r = read c.args.content.now c.args.slice.now c.content-inner.result.now c.open_start-start.result c.size-added.result c.size-size.result
    c.size-added.ensures.slice c.content-inner.ensures c.open_start-start.ensures.side c.size-added.ensures.size c.size-size.ensures.size in
    let p = err_from_is_err_and c.from_residual-in_err-feed-3.result c.from_residual-in_err-feed-3.ensures.1 in
    splice_err k c.args.from c.args.to r _ _ _ _ p.1 p.2 c.in_err-feed-3.ensures
    (refused-3 k c.args.from c.args.to r c.new-builder.result c.new-builder.ensures c.feed.new.self c.in_ok-feed.ensures c.feed-2.new.self c.in_ok-feed-2.ensures)

pub finish-requires : goal.finish-requires
finish-requires c =
    let k = compatible (documents_of c.args.schema.now.spec) in
    let r = read c.args.content.now c.args.slice.now c.content-inner.result.now c.open_start-start.result c.size-added.result c.size-size.result
    c.size-added.ensures.slice c.content-inner.ensures c.open_start-start.ensures.side c.size-added.ensures.size c.size-size.ensures.size in
    none-open k c.args.from c.args.to r c.new-builder.result c.new-builder.ensures c.feed.new.self c.in_ok-feed.ensures c.feed-2.new.self c.in_ok-feed-2.ensures c.feed-3.new.self c.in_ok-feed-3.ensures c.size-size.ensures.whole c.size-added.ensures.slice c.requires.order c.requires.within c.requires.fits

pub returns : goal.returns
returns c =
    let k = compatible (documents_of c.args.schema.now.spec) in
    let r = read c.args.content.now c.args.slice.now c.content-inner.result.now c.open_start-start.result c.size-added.result c.size-size.result
    c.size-added.ensures.slice c.content-inner.ensures c.open_start-start.ensures.side c.size-added.ensures.size c.size-size.ensures.size in
    let a = all-fed k c.args.from c.args.to r c.new-builder.result c.new-builder.ensures c.feed.new.self c.in_ok-feed.ensures c.feed-2.new.self c.in_ok-feed-2.ensures c.feed-3.new.self c.in_ok-feed-3.ensures in
    (a.joined, c.finish.ensures ∙ a.tokens)
