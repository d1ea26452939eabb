use Rattle.std.proofs.Common.{length, arith, ap}
use Rattle.std.proofs.lemmas.Result.{err_from_is_err_and}
use Rattle.pm_tokens.specs.Schemas.{compatible}
use Rattle.pm_schema.specs.Documents.{documents_of}
use Rattle.pm_replace.proofs.FedSplices.{end-is, end-within}
use Rattle.pm_apply.proofs.FedAround.{around_of, in-five, join_err, stopped-1, stopped-2, stopped-3, stopped-4, stopped-5, all-crossed}
use Rattle.pm_apply.proofs.around.join_around.Goals as goal

pub overflow_add-middle : goal.overflow_add-middle
overflow_add-middle c =
    let sl = c.args.slice.now in
    omega (arith, c.requires, end-is sl c.size-added.ensures.slice, end-within sl c.size-added.ensures.slice, c.open_start-start.ensures.side, c.size-added.ensures.size, c.size.ensures.size, c.size.ensures.bound, ap length c.content-inner.ensures)

pub overflow_add-end : goal.overflow_add-end
overflow_add-end c =
    let sl = c.args.slice.now in
    omega (arith, end-is sl c.size-added.ensures.slice, end-within sl c.size-added.ensures.slice, c.open_start-start.ensures.side, c.size-added.ensures.size, c.size.ensures.size, c.size.ensures.bound, ap length c.content-inner.ensures)

pub returns-in_err-cross : goal.returns-in_err-cross
returns-in_err-cross c =
    let k = compatible (documents_of c.args.schema.now.spec) in
    let r = in-five c.args.content.now c.args.ends c.args.slice.now c.content-inner.result.now c.open_start-start.result c.size-added.result c.size-size.result
    c.size-added.ensures.slice c.requires c.content-inner.ensures c.open_start-start.ensures.side c.size-added.ensures.size c.size-size.ensures.size in
    let p = err_from_is_err_and c.from_residual.result c.from_residual.ensures.1 in
    join_err k (around_of c.args.content.now c.args.ends c.args.slice.now) _ _ _ _ p.1 p.2 c.in_err-cross.ensures
    (stopped-1 k r c.new-open.result c.new-open.ensures)

pub returns-in_err-cross-2 : goal.returns-in_err-cross-2
returns-in_err-cross-2 c =
    let k = compatible (documents_of c.args.schema.now.spec) in
    let r = in-five c.args.content.now c.args.ends c.args.slice.now c.content-inner.result.now c.open_start-start.result c.size-added.result c.size-size.result
    c.size-added.ensures.slice c.requires c.content-inner.ensures c.open_start-start.ensures.side c.size-added.ensures.size c.size-size.ensures.size in
    let p = err_from_is_err_and c.from_residual-in_err-cross-2.result c.from_residual-in_err-cross-2.ensures.1 in
    join_err k (around_of c.args.content.now c.args.ends c.args.slice.now) _ _ _ _ p.1 p.2 c.in_err-cross-2.ensures
    (stopped-2 k r c.new-open.result c.new-open.ensures c.cross.new.self c.in_ok-cross.ensures)

pub returns-in_err-cross-3 : goal.returns-in_err-cross-3
returns-in_err-cross-3 c =
    let k = compatible (documents_of c.args.schema.now.spec) in
    let r = in-five c.args.content.now c.args.ends c.args.slice.now c.content-inner.result.now c.open_start-start.result c.size-added.result c.size-size.result
    c.size-added.ensures.slice c.requires c.content-inner.ensures c.open_start-start.ensures.side c.size-added.ensures.size c.size-size.ensures.size in
    let p = err_from_is_err_and c.from_residual-in_err-cross-3.result c.from_residual-in_err-cross-3.ensures.1 in
    join_err k (around_of c.args.content.now c.args.ends c.args.slice.now) _ _ _ _ p.1 p.2 c.in_err-cross-3.ensures
    (stopped-3 k r c.new-open.result c.new-open.ensures c.cross.new.self c.in_ok-cross.ensures c.cross-2.new.self c.in_ok-cross-2.ensures)

pub returns-in_err-cross-4 : goal.returns-in_err-cross-4
returns-in_err-cross-4 c =
    let k = compatible (documents_of c.args.schema.now.spec) in
    let r = in-five c.args.content.now c.args.ends c.args.slice.now c.content-inner.result.now c.open_start-start.result c.size-added.result c.size-size.result
    c.size-added.ensures.slice c.requires c.content-inner.ensures c.open_start-start.ensures.side c.size-added.ensures.size c.size-size.ensures.size in
    let p = err_from_is_err_and c.from_residual-in_err-cross-4.result c.from_residual-in_err-cross-4.ensures.1 in
    join_err k (around_of c.args.content.now c.args.ends c.args.slice.now) _ _ _ _ p.1 p.2 c.in_err-cross-4.ensures
    (stopped-4 k r c.new-open.result c.new-open.ensures c.cross.new.self c.in_ok-cross.ensures c.cross-2.new.self c.in_ok-cross-2.ensures c.cross-3.new.self c.in_ok-cross-3.ensures)

pub returns-in_err-cross-5 : goal.returns-in_err-cross-5
returns-in_err-cross-5 c =
    let k = compatible (documents_of c.args.schema.now.spec) in
    let r = in-five c.args.content.now c.args.ends c.args.slice.now c.content-inner.result.now c.open_start-start.result c.size-added.result c.size-size.result
    c.size-added.ensures.slice c.requires c.content-inner.ensures c.open_start-start.ensures.side c.size-added.ensures.size c.size-size.ensures.size in
    let p = err_from_is_err_and c.from_residual-in_err-cross-5.result c.from_residual-in_err-cross-5.ensures.1 in
    join_err k (around_of c.args.content.now c.args.ends c.args.slice.now) _ _ _ _ p.1 p.2 c.in_err-cross-5.ensures
    (stopped-5 k r c.new-open.result c.new-open.ensures c.cross.new.self c.in_ok-cross.ensures c.cross-2.new.self c.in_ok-cross-2.ensures c.cross-3.new.self c.in_ok-cross-3.ensures c.cross-4.new.self c.in_ok-cross-4.ensures)

pub returns : goal.returns
returns c =
    let k = compatible (documents_of c.args.schema.now.spec) in
    let r = in-five c.args.content.now c.args.ends c.args.slice.now c.content-inner.result.now c.open_start-start.result c.size-added.result c.size-size.result
    c.size-added.ensures.slice c.requires c.content-inner.ensures c.open_start-start.ensures.side c.size-added.ensures.size c.size-size.ensures.size in
    all-crossed k r c.new-open.result c.new-open.ensures c.cross.new.self c.in_ok-cross.ensures c.cross-2.new.self c.in_ok-cross-2.ensures c.cross-3.new.self c.in_ok-cross-3.ensures c.cross-4.new.self c.in_ok-cross-4.ensures c.cross-5.new.self c.in_ok-cross-5.ensures
