use Rattle.std.proofs.Common.{◌+◌, arith, ap}
use Rattle.std.specs.Prelude.{Err}
use Rattle.std.proofs.lemmas.Result.{err_from_is_err_and}
use Rattle.pm_tokens.specs.Slices.{spliced}
use Rattle.pm_change.specs.Failing.{Answers}
use Rattle.pm_schema.specs.Documents.{documents_of}
use Rattle.pm_node.specs.Documents.{doc_with}
use Rattle.pm_replace.specs.Splices.{spliced_outcome}
use Rattle.pm_replace.proofs.OutcomeAnswers.{made-answers, spliced-changed}
use Rattle.pm_replace.proofs.replacing.splice_valid.Goals as goal

pub checked_change-requires : goal.checked_change-requires
checked_change-requires c =
    let m = c.in_ok-made.ensures in
    record {
      valid = c.requires.valid;
      changed = spliced-changed (documents_of c.args.schema.now.spec) c.args.content.now c.in_ok-made.made c.args.from c.args.to (c.args.from + c.size-2.result) c.args.slice.now
          c.size.ensures.whole c.size-2.ensures.slice c.requires.order c.requires.within c.requires.fits m.made.is (ap (λ n. c.args.from + n) c.size-2.ensures.size);
      order = c.requires.order;
      new_order = omega arith;
      size = m.made.size;
    }

pub returns : goal.returns
returns c =
    let m = c.in_ok-made.ensures in
    made-answers (documents_of c.args.schema.now.spec) (doc_with c.args.top.now c.args.content.now) (spliced c.args.content.now c.args.from c.args.to c.args.slice.now) c.in_ok-made.made c.checked_change.result
    (m.made.joined, m.made.is) c.checked_change.ensures

pub returns-in_err-made : goal.returns-in_err-made
returns-in_err-made c =
    let s = documents_of c.args.schema.now.spec in
    let d = doc_with c.args.top.now c.args.content.now in
    let p = err_from_is_err_and c.from_residual.result c.from_residual.ensures.1 in
    let answers : Answers (spliced_outcome s d (spliced c.args.content.now c.args.from c.args.to c.args.slice.now)) (Err c.in_err-made.field-0.0) = c.in_err-made.ensures.refused d in
    rw (p.1, p.2) answers
