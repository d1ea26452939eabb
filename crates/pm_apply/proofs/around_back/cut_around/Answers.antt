use Rattle.std.proofs.Common.{arith, ◌∙◌}
use Rattle.pm_schema.specs.Documents.{documents_of}
use Rattle.pm_apply.proofs.AroundBackLaws.{out-within, out-fits, out-joins, out-slice, out-one}
use Rattle.pm_apply.proofs.around_back.cut_around.Goals as goal

pub without-requires : goal.without-requires
without-requires c =
    let ts = c.args.content.now in
    let e = c.args.ends in
    let r = c.requires in
    let is = c.in_ok-cut.ensures ∙ c.view_content-before.ensures.slice in
    record {
      order = omega arith;
      within = out-within ts e.from e.gap_from e.gap_to e.to c.size.ensures.whole r.before r.gap r.behind r.within r.whole
          c.in_ok-cut.cut is c.open_start-open_start.result c.open_end-open_end.result c.content-inner.result.now
          c.open_start-open_start.ensures.side c.open_end-open_end.ensures.side c.content-inner.ensures;
      fits = out-fits ts e.from e.gap_from e.gap_to e.to c.size.ensures.whole r.before r.gap r.behind r.within r.whole
          c.in_ok-cut.cut is c.open_start-open_start.result c.open_end-open_end.result c.content-inner.result.now
          c.open_start-open_start.ensures.side c.open_end-open_end.ensures.side c.content-inner.ensures;
      joins = out-joins ts e.from e.gap_from e.gap_to e.to c.size.ensures.whole r.before r.gap r.behind r.within r.whole
          c.in_ok-cut.cut is c.open_start-open_start.result c.open_end-open_end.result c.content-inner.result.now
          c.open_start-open_start.ensures.side c.open_end-open_end.ensures.side c.content-inner.ensures
          (documents_of c.args.schema.now.spec);
    }

pub unreachable-requires : goal.unreachable-requires
unreachable-requires c =
    let ts = c.args.content.now in
    let e = c.args.ends in
    let r = c.requires in
    let is = c.in_ok-cut.ensures ∙ c.view_content-before.ensures.slice in
    let w = c.in-Err.ensures.fits.1
    (out-slice ts e.from e.gap_from e.gap_to e.to c.size.ensures.whole r.before r.gap r.behind r.within r.whole
    c.in_ok-cut.cut is c.open_start-open_start.result c.open_end-open_end.result c.content-inner.result.now
    c.open_start-open_start.ensures.side c.open_end-open_end.ensures.side c.content-inner.ensures
    c.in_ok-made.made c.in_ok-made.ensures) in
    cc

pub returns : goal.returns
returns c =
    let ts = c.args.content.now in
    let e = c.args.ends in
    let r = c.requires in
    let is = c.in_ok-cut.ensures ∙ c.view_content-before.ensures.slice in
    out-one ts e.from e.gap_from e.gap_to e.to c.size.ensures.whole r.before r.gap r.behind r.within r.whole
    c.in_ok-cut.cut is c.open_start-open_start.result c.open_end-open_end.result c.content-inner.result.now
    c.open_start-open_start.ensures.side c.open_end-open_end.ensures.side c.content-inner.ensures
    c.in_ok-made.made c.in-Ok.slice c.in_ok-made.ensures c.in-Ok.ensures.made
