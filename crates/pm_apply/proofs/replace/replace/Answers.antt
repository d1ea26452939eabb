use Rattle.std.proofs.Common.{true, false, arith, sym, ◌∙◌, subst}
use Rattle.pm_change.specs.Failing.{Answers}
use Rattle.pm_schema.specs.Documents.{documents_of}
use Rattle.pm_node.specs.Documents.{doc_with}
use Rattle.pm_apply.proofs.ReplaceOutcomes.{replace-range, replace-structure, replace-depth, replace-pair, replace-spliced}
use Rattle.pm_apply.proofs.replace.replace.Goals as goal

pub returns-then-to-from : goal.returns-then-to-from
returns-then-to-from c =
    replace-range (documents_of c.args.schema.now.spec) (doc_with c.args.top.now c.args.content.now) c.args.step.now.from c.args.step.now.to c.args.step.now.slice c.args.step.now.structure c.size.ensures.slice
    (λ h i. omega (arith, h, c.if-to-from.true))

pub returns-then-size-to : goal.returns-then-size-to
returns-then-size-to c =
    replace-range (documents_of c.args.schema.now.spec) (doc_with c.args.top.now c.args.content.now) c.args.step.now.from c.args.step.now.to c.args.step.now.slice c.args.step.now.structure c.size.ensures.slice
    (λ h i. omega (arith, i, c.if-size-to.true, c.size-size.ensures.size))

pub returns-then-not-keeps : goal.returns-then-not-keeps
returns-then-not-keeps c =
    replace-structure (documents_of c.args.schema.now.spec) (doc_with c.args.top.now c.args.content.now) c.args.step.now.from c.args.step.now.to c.args.step.now.slice c.args.step.now.structure c.size.ensures.slice
    c.if-to-from.false (omega (arith, c.if-size-to.false, c.size-size.ensures.size)) (sym c.in_ok-keeps.ensures ∙ c.if-not-keeps.true)

pub returns-then-not-fits : goal.returns-then-not-fits
returns-then-not-fits c =
    replace-depth (documents_of c.args.schema.now.spec) (doc_with c.args.top.now c.args.content.now) c.args.step.now.from c.args.step.now.to c.args.step.now.slice c.args.step.now.structure c.size.ensures.slice
    c.if-to-from.false (omega (arith, c.if-size-to.false, c.size-size.ensures.size)) (sym c.in_ok-keeps.ensures ∙ c.if-not-keeps.false)
    (sym c.sides_fit-fits.ensures ∙ c.if-not-fits.true)

pub returns-then-parts_pair : goal.returns-then-parts_pair
returns-then-parts_pair c =
    replace-pair (documents_of c.args.schema.now.spec) (doc_with c.args.top.now c.args.content.now) c.args.step.now.from c.args.step.now.to c.args.step.now.slice c.args.step.now.structure c.size.ensures.slice
    c.if-to-from.false (omega (arith, c.if-size-to.false, c.size-size.ensures.size)) (sym c.in_ok-keeps.ensures ∙ c.if-not-keeps.false)
    (sym c.sides_fit-fits.ensures ∙ c.if-not-fits.false) true (sym c.parts_pair.ensures ∙ c.if-parts_pair.true) (λ e. absurd (cc))

pub returns-then-parts_pair-2 : goal.returns-then-parts_pair-2
returns-then-parts_pair-2 c =
    replace-pair (documents_of c.args.schema.now.spec) (doc_with c.args.top.now c.args.content.now) c.args.step.now.from c.args.step.now.to c.args.step.now.slice c.args.step.now.structure c.size.ensures.slice
    c.if-to-from.false (omega (arith, c.if-size-to.false, c.size-size.ensures.size)) (sym c.in_ok-keeps.ensures ∙ c.if-not-keeps.false)
    (sym c.sides_fit-fits.ensures ∙ c.if-not-fits.false) false (sym c.parts_pair.ensures ∙ c.if-parts_pair.false) (λ e. sym c.parts_pair-2.ensures ∙ c.if-parts_pair-2.true)

pub splice_valid-requires : goal.splice_valid-requires
splice_valid-requires c = record {
  valid = c.requires;
  order = c.if-to-from.false;
  within = omega (arith, c.if-size-to.false, c.size-size.ensures.size);
  fits = sym c.sides_fit-fits.ensures ∙ c.if-not-fits.false;
}

pub returns : goal.returns
returns c =
    subst (λ z. Answers z c.splice_valid.result)
    (sym (replace-spliced (documents_of c.args.schema.now.spec) (doc_with c.args.top.now c.args.content.now) c.args.step.now.from c.args.step.now.to c.args.step.now.slice c.args.step.now.structure c.size.ensures.slice
    c.if-to-from.false (omega (arith, c.if-size-to.false, c.size-size.ensures.size)) (sym c.in_ok-keeps.ensures ∙ c.if-not-keeps.false)
    (sym c.sides_fit-fits.ensures ∙ c.if-not-fits.false) (sym c.parts_pair.ensures ∙ c.if-parts_pair.false) (sym c.parts_pair-2.ensures ∙ c.if-parts_pair-2.false)))
    c.splice_valid.ensures
