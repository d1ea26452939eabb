use Rattle.std.proofs.Common.{arith, sym, ◌∙◌, subst, length}
use Rattle.pm_change.specs.Failing.{Answers}
use Rattle.pm_schema.specs.Documents.{documents_of}
use Rattle.pm_node.specs.Documents.{doc_with}
use Rattle.pm_apply.specs.Around.{ends_of}
use Rattle.pm_apply.proofs.AroundOutcomes.{is-ordered, around-range, around-structure, around-gap, around-depth, around-pair, around-spliced}
use Rattle.pm_apply.proofs.around.replace_around.Goals as goal

pub returns-then-not-ordered : goal.returns-then-not-ordered
returns-then-not-ordered c =
    around-range (documents_of c.args.schema.now.spec) (doc_with c.args.top.now c.args.content.now) (ends_of c.args.step.now) c.args.step.now.slice c.args.step.now.structure c.are_ordered-ordered.ensures.slice
    (sym c.are_ordered-ordered.ensures.ordered ∙ c.if-not-ordered.true)

pub keeps_around-requires : goal.keeps_around-requires
keeps_around-requires c =
    let o = is-ordered (ends_of c.args.step.now) c.args.step.now.slice (length c.args.content.now) (sym c.are_ordered-ordered.ensures.ordered ∙ c.if-not-ordered.false) in
    record { before = o.before; gap = o.gap; behind = o.behind; within = o.within }

pub returns-then-not-keeps : goal.returns-then-not-keeps
returns-then-not-keeps c =
    around-structure (documents_of c.args.schema.now.spec) (doc_with c.args.top.now c.args.content.now) (ends_of c.args.step.now) c.args.step.now.slice c.args.step.now.structure c.are_ordered-ordered.ensures.slice
    (sym c.are_ordered-ordered.ensures.ordered ∙ c.if-not-ordered.false) (sym c.in_ok-keeps.ensures ∙ c.if-not-keeps.true)

pub is_whole-requires : goal.is_whole-requires
is_whole-requires c =
    let o = is-ordered (ends_of c.args.step.now) c.args.step.now.slice (length c.args.content.now) (sym c.are_ordered-ordered.ensures.ordered ∙ c.if-not-ordered.false) in
    record { order = o.gap; within = omega (arith, o.behind, o.within) }

pub returns-then-not-whole : goal.returns-then-not-whole
returns-then-not-whole c =
    around-gap (documents_of c.args.schema.now.spec) (doc_with c.args.top.now c.args.content.now) (ends_of c.args.step.now) c.args.step.now.slice c.args.step.now.structure c.are_ordered-ordered.ensures.slice
    (sym c.are_ordered-ordered.ensures.ordered ∙ c.if-not-ordered.false) (sym c.in_ok-keeps.ensures ∙ c.if-not-keeps.false) (sym c.in_ok-whole.ensures ∙ c.if-not-whole.true)

pub sides_fit-fits-requires : goal.sides_fit-fits-requires
sides_fit-fits-requires c =
    let o = is-ordered (ends_of c.args.step.now) c.args.step.now.slice (length c.args.content.now) (sym c.are_ordered-ordered.ensures.ordered ∙ c.if-not-ordered.false) in
    record { start = omega (arith, o.before, o.gap, o.behind, o.within); end = o.within }

pub returns-then-not-fits : goal.returns-then-not-fits
returns-then-not-fits c =
    around-depth (documents_of c.args.schema.now.spec) (doc_with c.args.top.now c.args.content.now) (ends_of c.args.step.now) c.args.step.now.slice c.args.step.now.structure c.are_ordered-ordered.ensures.slice
    (sym c.are_ordered-ordered.ensures.ordered ∙ c.if-not-ordered.false) (sym c.in_ok-keeps.ensures ∙ c.if-not-keeps.false) (sym c.in_ok-whole.ensures ∙ c.if-not-whole.false)
    (sym c.sides_fit-fits.ensures ∙ c.if-not-fits.true)

pub part_no_pair-unparted-requires : goal.part_no_pair-unparted-requires
part_no_pair-unparted-requires c =
    (is-ordered (ends_of c.args.step.now) c.args.step.now.slice (length c.args.content.now) (sym c.are_ordered-ordered.ensures.ordered ∙ c.if-not-ordered.false)).insert

pub returns-then-not-unparted : goal.returns-then-not-unparted
returns-then-not-unparted c =
    around-pair (documents_of c.args.schema.now.spec) (doc_with c.args.top.now c.args.content.now) (ends_of c.args.step.now) c.args.step.now.slice c.args.step.now.structure c.are_ordered-ordered.ensures.slice
    (sym c.are_ordered-ordered.ensures.ordered ∙ c.if-not-ordered.false) (sym c.in_ok-keeps.ensures ∙ c.if-not-keeps.false) (sym c.in_ok-whole.ensures ∙ c.if-not-whole.false)
    (sym c.sides_fit-fits.ensures ∙ c.if-not-fits.false) (sym c.part_no_pair-unparted.ensures ∙ c.if-not-unparted.true)

pub put_around-requires : goal.put_around-requires
put_around-requires c =
    let o = is-ordered (ends_of c.args.step.now) c.args.step.now.slice (length c.args.content.now) (sym c.are_ordered-ordered.ensures.ordered ∙ c.if-not-ordered.false) in
    record {
      valid = c.requires;
      placed = record {
        slice = c.are_ordered-ordered.ensures.slice;
        before = o.before;
        gap = o.gap;
        behind = o.behind;
        within = o.within;
        insert = o.insert;
        whole = sym c.in_ok-whole.ensures ∙ c.if-not-whole.false;
        depths = sym c.sides_fit-fits.ensures ∙ c.if-not-fits.false;
      };
    }

pub returns : goal.returns
returns c =
    subst (λ z. Answers z c.put_around.result)
    (sym (around-spliced (documents_of c.args.schema.now.spec) (doc_with c.args.top.now c.args.content.now) (ends_of c.args.step.now) c.args.step.now.slice c.args.step.now.structure c.are_ordered-ordered.ensures.slice
    (sym c.are_ordered-ordered.ensures.ordered ∙ c.if-not-ordered.false) (sym c.in_ok-keeps.ensures ∙ c.if-not-keeps.false) (sym c.in_ok-whole.ensures ∙ c.if-not-whole.false)
    (sym c.sides_fit-fits.ensures ∙ c.if-not-fits.false) (sym c.part_no_pair-unparted.ensures ∙ c.if-not-unparted.false)))
    c.put_around.ensures
