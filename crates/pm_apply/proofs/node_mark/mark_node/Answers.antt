use Rattle.std.proofs.Common.{[], ◌∷◌, ◌+◌, ◌≤◌, length, refl, arith, sym, ◌∙◌, subst, ap}
use Rattle.std.specs.Prelude.{IsSome}
use Rattle.std.specs.Option.{option_copied}
use Rattle.pm_change.specs.Failing.{Answers}
use Rattle.pm_schema.specs.Documents.{documents_of}
use Rattle.pm_node.specs.Documents.{doc_with}
use Rattle.pm_apply.proofs.KnownLaws.{top-known, all-known}
use Rattle.pm_apply.proofs.ChangedLaws.{marked-changed, marked-size, first-within}
use Rattle.pm_apply.proofs.MarkOutcomes.{node-refused, node-paired, node-missing, node-checked}
use Rattle.pm_apply.specs.declared.marking.Reach.TheVariants.{Nodes}
use Rattle.pm_apply.specs.Markings.{new_marks}
use Rattle.pm_apply.proofs.node_mark.mark_node.Goals as goal

pub returns-then-size-pos : goal.returns-then-size-pos
returns-then-size-pos c =
    node-refused (documents_of c.args.schema.now.spec) c.args.step.now.marking c.args.step.now.pos (doc_with c.args.top.now c.args.content.now)
    (omega (arith, c.if-size-pos.true, c.size-size.ensures.size))

pub returns-then-parts_pair : goal.returns-then-parts_pair
returns-then-parts_pair c =
    node-paired (documents_of c.args.schema.now.spec) c.args.step.now.marking c.args.step.now.pos (doc_with c.args.top.now c.args.content.now)
    (omega (arith, c.if-size-pos.false, c.size-size.ensures.size)) (sym c.parts_pair.ensures ∙ c.if-parts_pair.true)

pub returns-in_default : goal.returns-in_default
returns-in_default c =
    node-missing (documents_of c.args.schema.now.spec) c.args.step.now.marking c.args.step.now.pos (doc_with c.args.top.now c.args.content.now)
    (omega (arith, c.if-size-pos.false, c.size-size.ensures.size)) (sym c.parts_pair.ensures ∙ c.if-parts_pair.false) c.requires (sym c.node_marks_at.ensures ∙ ap option_copied c.in_default.is)

pub mark_content-requires : goal.mark_content-requires
mark_content-requires c = record {
  order = omega arith;
  parent = top-known c.args.schema.now.spec (doc_with c.args.top.now c.args.content.now) c.requires;
  known = all-known c.args.schema.now.spec (doc_with c.args.top.now c.args.content.now) c.requires;
}

pub returns : goal.returns
returns c =
    subst (λ z. Answers z c.checked_change.result)
    (sym (node-checked (documents_of c.args.schema.now.spec) c.args.step.now.marking c.args.step.now.pos (doc_with c.args.top.now c.args.content.now)
    (omega (arith, c.if-size-pos.false, c.size-size.ensures.size)) (sym c.parts_pair.ensures ∙ c.if-parts_pair.false)
    (subst IsSome c.node_marks_at.ensures (subst (λ z. IsSome (option_copied z)) (sym c.in-Some.is) refl))
    c.in_ok-made.made (c.in_ok-made.ensures [])))
    c.checked_change.ensures

pub checked_change-requires : goal.checked_change-requires
checked_change-requires c =
    let s = documents_of c.args.schema.now.spec in
    let f = new_marks s c.args.step.now.marking Nodes in
    let pos = c.args.step.now.pos in
    let made = c.in_ok-made.made in
    let is = c.in_ok-made.ensures [] in
    let within : pos + 1 ≤ length c.args.content.now = first-within pos c.args.content.now (subst IsSome c.node_marks_at.ensures (subst (λ z. IsSome (option_copied z)) (sym c.in-Some.is) refl)) in
    let order : pos ≤ pos + 1 = omega arith in
    record {
      valid = c.requires;
      changed = marked-changed f (c.args.top.now.kind ∷ []) pos (pos + 1) c.args.content.now made order within is;
      order = order;
      new_order = order;
      size = omega (arith, marked-size f (c.args.top.now.kind ∷ []) pos (pos + 1) c.args.content.now made order within is, c.requires.size);
    }
