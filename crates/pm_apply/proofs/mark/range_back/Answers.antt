use Rattle.std.proofs.Common.{◌++◌, [], ◌∷◌, arith, ap, sym, ◌∙◌}
use Rattle.pm_schema.specs.Documents.{documents_of}
use Rattle.pm_node.specs.Documents.{doc_with}
use Rattle.pm_apply.specs.declared.target.Target.TheVariants.{Range}
use Rattle.pm_apply.specs.Walks.{target_step}
use Rattle.pm_step.specs.Steps.{opposite, range_step}
use Rattle.pm_meaning.proofs.OutcomeLaws.{made-ok}
use Rattle.pm_apply.proofs.KnownLaws.{top-known, all-known}
use Rattle.pm_apply.proofs.RestoredWalk.{are_back}
use Rattle.pm_apply.proofs.BackLaws.{back-by-one, by-runs, target-range}
use Rattle.pm_apply.proofs.InverseLaws.{range-is}
use Rattle.pm_apply.proofs.mark.range_back.Goals as goal

pub restores-requires : goal.restores-requires
restores-requires c = record {
  order = (range-is (documents_of c.args.schema.now.spec) c.args.step.now.marking c.args.step.now.from c.args.step.now.to (doc_with c.args.top.now c.args.content.now) c.requires.applies.0 c.requires.applies.1).order;
  parent = top-known c.args.schema.now.spec (doc_with c.args.top.now c.args.content.now) c.requires.good;
  known = all-known c.args.schema.now.spec (doc_with c.args.top.now c.args.content.now) c.requires.good;
}

pub take_content-requires : goal.take_content-requires
take_content-requires c = record {
  order = (range-is (documents_of c.args.schema.now.spec) c.args.step.now.marking c.args.step.now.from c.args.step.now.to (doc_with c.args.top.now c.args.content.now) c.requires.applies.0 c.requires.applies.1).order;
  parent = top-known c.args.schema.now.spec (doc_with c.args.top.now c.args.content.now) c.requires.good;
  known = all-known c.args.schema.now.spec (doc_with c.args.top.now c.args.content.now) c.requires.good;
  room = omega (arith, c.size-size.ensures.size, c.size-size.ensures.bound);
}

pub returns-then-kept : goal.returns-then-kept
returns-then-kept c =
    let s = documents_of c.args.schema.now.spec in
    let d = doc_with c.args.top.now c.args.content.now in
    let m = c.args.step.now.marking in
    let r = range-is s m c.args.step.now.from c.args.step.now.to d c.requires.applies.0 c.requires.applies.1 in
    c.in_ok-push_step.ensures
    ∙ (ap (λ z. z ++ target_step (Range c.args.step.now.from c.args.step.now.to) c.in_ok-back.back ∷ []) c.new-steps.ensures.items
    ∙ (ap (λ z. target_step (Range c.args.step.now.from c.args.step.now.to) z ∷ []) c.in_ok-back.ensures
    ∙ (ap (λ z. z ∷ []) (target-range (opposite m) c.args.step.now.from c.args.step.now.to)
    ∙ back-by-one s m c.args.step.now.from c.args.step.now.to d c.requires.good r.order r.within (made-ok s (range_step m c.args.step.now.from c.args.step.now.to) d c.requires.applies.0 c.requires.applies.1).0 r.start r.end
    (ap (λ z. are_back s m z (d.kind ∷ []) c.args.step.now.from c.args.step.now.to d.tokens) (sym c.in_ok-back.ensures) ∙ (sym (c.in_ok-kept.ensures []) ∙ c.if-kept.true)))))

pub returns : goal.returns
returns c =
    let s = documents_of c.args.schema.now.spec in
    let d = doc_with c.args.top.now c.args.content.now in
    let m = c.args.step.now.marking in
    let r = range-is s m c.args.step.now.from c.args.step.now.to d c.requires.applies.0 c.requires.applies.1 in
    by-runs s m c.args.step.now.from c.args.step.now.to d c.requires.good r.order r.within (made-ok s (range_step m c.args.step.now.from c.args.step.now.to) d c.requires.applies.0 c.requires.applies.1).0 r.start r.end
    (ap (λ z. are_back s m z (d.kind ∷ []) c.args.step.now.from c.args.step.now.to d.tokens) (sym c.in_ok-back.ensures) ∙ (sym (c.in_ok-kept.ensures []) ∙ c.if-kept.false))
    c.new-runs.result c.take_content.new.self c.close.new.self c.size-size.result
    c.new-runs.ensures.steps c.new-runs.ensures.run (c.in_ok-take_content.ensures []) c.in_ok-close.ensures.steps c.size-size.ensures.size
