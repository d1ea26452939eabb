use Rattle.std.proofs.Common.{true, false, [], ◌∷◌, ◌≤◌, length, arith, sym, ◌∙◌, subst}
use Rattle.pm_change.specs.Failing.{Answers}
use Rattle.pm_schema.specs.Documents.{documents_of}
use Rattle.pm_node.specs.Documents.{doc_with}
use Rattle.pm_apply.proofs.KnownLaws.{top-known, all-known}
use Rattle.pm_apply.proofs.ChangedLaws.{marked-changed, marked-size}
use Rattle.pm_apply.proofs.MarkOutcomes.{range-refused, range-paired, range-checked}
use Rattle.pm_apply.specs.declared.marking.Reach.TheVariants.{Inline}
use Rattle.pm_apply.specs.Markings.{new_marks}
use Rattle.pm_apply.proofs.mark.mark_range.Goals as goal

pub returns-then-to-from : goal.returns-then-to-from
returns-then-to-from c =
    range-refused (documents_of c.args.schema.now.spec) c.args.step.now.marking c.args.step.now.from c.args.step.now.to (doc_with c.args.top.now c.args.content.now)
    (λ h i. omega (arith, h, c.if-to-from.true))

pub returns-then-size-to : goal.returns-then-size-to
returns-then-size-to c =
    range-refused (documents_of c.args.schema.now.spec) c.args.step.now.marking c.args.step.now.from c.args.step.now.to (doc_with c.args.top.now c.args.content.now)
    (λ h i. omega (arith, i, c.if-size-to.true, c.size-size.ensures.size))

pub returns-then-parts_pair : goal.returns-then-parts_pair
returns-then-parts_pair c =
    range-paired (documents_of c.args.schema.now.spec) c.args.step.now.marking c.args.step.now.from c.args.step.now.to (doc_with c.args.top.now c.args.content.now)
    c.if-to-from.false (omega (arith, c.if-size-to.false, c.size-size.ensures.size)) true (sym c.parts_pair.ensures ∙ c.if-parts_pair.true) (λ e. absurd (cc))

pub returns-then-parts_pair-2 : goal.returns-then-parts_pair-2
returns-then-parts_pair-2 c =
    range-paired (documents_of c.args.schema.now.spec) c.args.step.now.marking c.args.step.now.from c.args.step.now.to (doc_with c.args.top.now c.args.content.now)
    c.if-to-from.false (omega (arith, c.if-size-to.false, c.size-size.ensures.size)) false (sym c.parts_pair.ensures ∙ c.if-parts_pair.false) (λ e. sym c.parts_pair-2.ensures ∙ c.if-parts_pair-2.true)

pub mark_content-requires : goal.mark_content-requires
mark_content-requires c = record {
  order = c.if-to-from.false;
  parent = top-known c.args.schema.now.spec (doc_with c.args.top.now c.args.content.now) c.requires;
  known = all-known c.args.schema.now.spec (doc_with c.args.top.now c.args.content.now) c.requires;
}

pub returns : goal.returns
returns c =
    subst (λ z. Answers z c.checked_change.result)
    (sym (range-checked (documents_of c.args.schema.now.spec) c.args.step.now.marking c.args.step.now.from c.args.step.now.to (doc_with c.args.top.now c.args.content.now)
    c.if-to-from.false (omega (arith, c.if-size-to.false, c.size-size.ensures.size)) (sym c.parts_pair.ensures ∙ c.if-parts_pair.false) (sym c.parts_pair-2.ensures ∙ c.if-parts_pair-2.false)
    c.in_ok-made.made (c.in_ok-made.ensures [])))
    c.checked_change.ensures

pub checked_change-requires : goal.checked_change-requires
checked_change-requires c =
    let s = documents_of c.args.schema.now.spec in
    let f = new_marks s c.args.step.now.marking Inline in
    let made = c.in_ok-made.made in
    let is = c.in_ok-made.ensures [] in
    let order : c.args.step.now.from ≤ c.args.step.now.to = c.if-to-from.false in
    let within : c.args.step.now.to ≤ length c.args.content.now = omega (arith, c.if-size-to.false, c.size-size.ensures.size) in
    record {
      valid = c.requires;
      changed = marked-changed f (c.args.top.now.kind ∷ []) c.args.step.now.from c.args.step.now.to c.args.content.now made order within is;
      order = order;
      new_order = order;
      size = omega (arith, marked-size f (c.args.top.now.kind ∷ []) c.args.step.now.from c.args.step.now.to c.args.content.now made order within is, c.requires.size);
    }
