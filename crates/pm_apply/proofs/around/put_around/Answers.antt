use Rattle.std.proofs.Common.{arith, ap, length}
use Rattle.pm_tokens.specs.Schemas.{compatible}
use Rattle.pm_schema.specs.Documents.{documents_of}
use Rattle.pm_node.specs.Documents.{doc_with}
use Rattle.pm_replace.proofs.OutcomeAnswers.{large-answers}
use Rattle.pm_apply.proofs.ChangedLaws.{around-changed}
use Rattle.pm_apply.proofs.FedAround.{around_of, large-around}
use Rattle.pm_apply.proofs.around.put_around.Goals as goal

pub splice_around-requires : goal.splice_around-requires
splice_around-requires c = record {
  placed = c.requires.placed;
  room = omega (arith, c.if-total-max_size.false, c.max_size.ensures.small, c.size-size.ensures.size, c.size-added.ensures.size);
}

pub returns-in-Ok : goal.returns-in-Ok
returns-in-Ok c =
    let s = documents_of c.args.schema.now.spec in
    let e = large-around (compatible s) c.args.content.now c.args.ends c.args.slice.now c.size-size.ensures.whole c.requires.placed in
    large-answers s (doc_with c.args.top.now c.args.content.now) (around_of c.args.content.now c.args.ends c.args.slice.now) c.in-Ok.ensures
    (omega (arith, e, c.requires.placed.before, c.requires.placed.gap, c.requires.placed.behind, c.requires.placed.within, c.if-total-max_size.true, c.max_size.ensures.size, c.size-size.ensures.size, c.size-added.ensures.size))

pub checked_change-requires : goal.checked_change-requires
checked_change-requires c =
    let s = documents_of c.args.schema.now.spec in
    let p = c.requires.placed in
    let is = c.in-Ok-splice_around.ensures.1 in
    let e = large-around (compatible s) c.args.content.now c.args.ends c.args.slice.now c.size-size.ensures.whole p in
    record {
      valid = c.requires.valid;
      changed = around-changed s c.args.content.now c.in-Ok-splice_around.made c.args.ends c.args.slice.now _ c.size-size.ensures.whole p is (omega (arith, c.size-added.ensures.size));
      order = omega (arith, p.before, p.gap, p.behind);
      new_order = omega arith;
      size = omega (arith, e, ap length is, p.before, p.gap, p.behind, p.within, c.if-total-max_size.false, c.max_size.ensures.size, c.size-size.ensures.size, c.size-added.ensures.size);
    }
