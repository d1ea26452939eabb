use Rattle.std.proofs.Common.{arith, ap, length}
use Rattle.pm_tokens.specs.Slices.{spliced}
use Rattle.pm_schema.specs.Documents.{documents_of}
use Rattle.pm_replace.proofs.OutcomeAnswers.{large-answers, large-splice}
use Rattle.pm_replace.proofs.replacing.splice_within.Goals as goal

pub splice-requires : goal.splice-requires
splice-requires c = record {
  order = c.requires.order;
  within = c.requires.within;
  fits = c.requires.fits;
  room = omega (arith, c.if-total-max_size.false, c.max_size.ensures.small, c.size-size.ensures.size, c.size-added.ensures.size);
}

pub returns-in-Ok-clause-refused : goal.returns-in-Ok-clause-refused
returns-in-Ok-clause-refused c = λ d.
    let s = documents_of c.args.schema.now.spec in
    let e = large-splice s c.args.content.now c.args.from c.args.to c.args.slice.now c.size-size.ensures.whole c.size-added.ensures.slice c.requires.order c.requires.within c.requires.fits in
    large-answers s d (spliced c.args.content.now c.args.from c.args.to c.args.slice.now) c.in-Ok.ensures
    (omega (arith, e, c.requires.order, c.requires.within, c.if-total-max_size.true, c.max_size.ensures.size, c.size-size.ensures.size, c.size-added.ensures.size))

pub returns-in-Ok-splice-clause-made : goal.returns-in-Ok-splice-clause-made
returns-in-Ok-splice-clause-made c =
    let s = documents_of c.args.schema.now.spec in
    let e = large-splice s c.args.content.now c.args.from c.args.to c.args.slice.now c.size-size.ensures.whole c.size-added.ensures.slice c.requires.order c.requires.within c.requires.fits in
    record {
      joined = c.in-Ok-splice.ensures.0;
      is = c.in-Ok-splice.ensures.1;
      size = omega (arith, ap length c.in-Ok-splice.ensures.1, e, c.requires.order, c.requires.within, c.if-total-max_size.false, c.max_size.ensures.size, c.size-size.ensures.size, c.size-added.ensures.size);
    }
