use Rattle.std.proofs.Common.{arith, sym, ◌∙◌}
use Rattle.pm_schema.specs.Documents.{documents_of}
use Rattle.pm_node.specs.Documents.{doc_with}
use Rattle.pm_replace.proofs.OutcomeAnswers.{out-of-range, unfit-start, unfit-end, pair-from, pair-to, fit-depths, joined-answers}
use Rattle.pm_replace.proofs.replacing.replace_in.Goals as goal

pub returns-then-to-from : goal.returns-then-to-from
returns-then-to-from c =
    out-of-range (documents_of c.args.schema.now.spec) (doc_with c.args.top.now c.args.content.now) c.args.from c.args.to c.args.slice.now c.size.ensures.slice
    (λ h i. omega (arith, h, c.if-to-from.true))

pub returns-then-size-to : goal.returns-then-size-to
returns-then-size-to c =
    out-of-range (documents_of c.args.schema.now.spec) (doc_with c.args.top.now c.args.content.now) c.args.from c.args.to c.args.slice.now c.size.ensures.slice
    (λ h i. omega (arith, i, c.if-size-to.true, c.size-size.ensures.size))

pub returns-then-left-start : goal.returns-then-left-start
returns-then-left-start c =
    unfit-start (documents_of c.args.schema.now.spec) (doc_with c.args.top.now c.args.content.now) c.args.from c.args.to c.args.slice.now c.size.ensures.slice
    c.if-to-from.false (omega (arith, c.if-size-to.false, c.size-size.ensures.size))
    (omega (arith, c.if-left-start.true, c.depth_at-left.ensures.depth, c.open_start-start.ensures.side))

pub returns-then-left-end : goal.returns-then-left-end
returns-then-left-end c =
    unfit-end (documents_of c.args.schema.now.spec) (doc_with c.args.top.now c.args.content.now) c.args.from c.args.to c.args.slice.now c.size.ensures.slice
    c.if-to-from.false (omega (arith, c.if-size-to.false, c.size-size.ensures.size))
    (λ e. c.if-left-end.true (omega (arith, e, c.depth_at-left.ensures.depth, c.depth_at-right.ensures.depth, c.open_start-start.ensures.side, c.open_end-end.ensures.side)))

pub returns-then-parts_pair : goal.returns-then-parts_pair
returns-then-parts_pair c =
    let fits = fit-depths c.args.content.now c.args.from c.args.to c.args.slice.now c.depth_at-left.result c.depth_at-right.result c.open_start-start.result c.open_end-end.result
    c.depth_at-left.ensures.depth c.depth_at-right.ensures.depth c.open_start-start.ensures.side c.open_end-end.ensures.side c.if-left-start.false c.if-left-end.false in
    pair-from (documents_of c.args.schema.now.spec) (doc_with c.args.top.now c.args.content.now) c.args.from c.args.to c.args.slice.now c.size.ensures.slice
    c.if-to-from.false (omega (arith, c.if-size-to.false, c.size-size.ensures.size)) fits (sym c.parts_pair.ensures ∙ c.if-parts_pair.true)

pub returns-then-parts_pair-2 : goal.returns-then-parts_pair-2
returns-then-parts_pair-2 c =
    let fits = fit-depths c.args.content.now c.args.from c.args.to c.args.slice.now c.depth_at-left.result c.depth_at-right.result c.open_start-start.result c.open_end-end.result
    c.depth_at-left.ensures.depth c.depth_at-right.ensures.depth c.open_start-start.ensures.side c.open_end-end.ensures.side c.if-left-start.false c.if-left-end.false in
    pair-to (documents_of c.args.schema.now.spec) (doc_with c.args.top.now c.args.content.now) c.args.from c.args.to c.args.slice.now c.size.ensures.slice
    c.if-to-from.false (omega (arith, c.if-size-to.false, c.size-size.ensures.size)) fits (sym c.parts_pair-2.ensures ∙ c.if-parts_pair-2.true)

pub splice_valid-requires : goal.splice_valid-requires
splice_valid-requires c = record {
  valid = c.requires;
  order = c.if-to-from.false;
  within = omega (arith, c.if-size-to.false, c.size-size.ensures.size);
  fits = fit-depths c.args.content.now c.args.from c.args.to c.args.slice.now c.depth_at-left.result c.depth_at-right.result c.open_start-start.result c.open_end-end.result
      c.depth_at-left.ensures.depth c.depth_at-right.ensures.depth c.open_start-start.ensures.side c.open_end-end.ensures.side c.if-left-start.false c.if-left-end.false;
}

pub returns : goal.returns
returns c =
    let fits = fit-depths c.args.content.now c.args.from c.args.to c.args.slice.now c.depth_at-left.result c.depth_at-right.result c.open_start-start.result c.open_end-end.result
    c.depth_at-left.ensures.depth c.depth_at-right.ensures.depth c.open_start-start.ensures.side c.open_end-end.ensures.side c.if-left-start.false c.if-left-end.false in
    joined-answers (documents_of c.args.schema.now.spec) (doc_with c.args.top.now c.args.content.now) c.args.from c.args.to c.args.slice.now c.splice_valid.result c.size.ensures.slice
    c.if-to-from.false (omega (arith, c.if-size-to.false, c.size-size.ensures.size)) fits (sym c.parts_pair.ensures ∙ c.if-parts_pair.false) (sym c.parts_pair-2.ensures ∙ c.if-parts_pair-2.false)
    c.splice_valid.ensures
