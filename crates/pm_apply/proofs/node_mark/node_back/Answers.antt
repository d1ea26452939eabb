use Rattle.std.proofs.Common.{◌++◌, [], ◌∷◌, ap, sym, ◌∙◌, subst}
use Rattle.std.specs.Prelude.{IsSome}
use Rattle.std.specs.Option.{option_copied}
use Rattle.pm_attrs.specs.Attrs.{same_attrs}
use Rattle.pm_marks.specs.Sets.{same_marks}
use Rattle.pm_schema.specs.Documents.{documents_of}
use Rattle.pm_node.specs.Documents.{doc_with}
use Rattle.pm_meaning.specs.Runs.{node_steps}
use Rattle.pm_apply.specs.declared.target.Target.TheVariants.{Node}
use Rattle.pm_apply.specs.Walks.{target_step, given_back}
use Rattle.pm_apply.specs.Markings.{changed}
use Rattle.pm_apply.specs.Backs.{back_step}
use Rattle.pm_step.specs.Steps.{node_step}
use Rattle.pm_meaning.proofs.OutcomeLaws.{made-ok}
use Rattle.pm_apply.proofs.BackLaws.{target-node}
use Rattle.pm_apply.proofs.NodeBackLaws.{node-by-one, node-by-marks}
use Rattle.pm_apply.proofs.InverseLaws.{node-is}
use Rattle.pm_apply.proofs.node_mark.node_back.Goals as goal

pub unreachable-requires : goal.unreachable-requires
unreachable-requires c =
    let r = node-is (documents_of c.args.schema.now.spec) c.args.step.now.marking c.args.step.now.pos (doc_with c.args.top.now c.args.content.now) c.requires.applies.0 c.requires.applies.1 in
    let k = subst IsSome (sym c.node_marks_at.ensures ∙ ap option_copied c.in_default.is) r.there in
    cc

pub returns-then-same : goal.returns-then-same
returns-then-same c =
    let s = documents_of c.args.schema.now.spec in
    let d = doc_with c.args.top.now c.args.content.now in
    let m = c.args.step.now.marking in
    let r = node-is s m c.args.step.now.pos d c.requires.applies.0 c.requires.applies.1 in
    let b = c.in_ok-back.back in
    let old = c.in-Some.old.now in
    let there = sym c.node_marks_at.ensures ∙ ap option_copied c.in-Some.is in
    c.in_ok-push_step.ensures
    ∙ (ap (λ z. z ++ target_step (Node c.args.step.now.pos) b ∷ []) c.new-steps.ensures.items
    ∙ (ap (λ z. z ∷ []) (target-node b c.args.step.now.pos)
    ∙ node-by-one s m b c.args.step.now.pos d old c.requires.good r.within r.whole there (made-ok s (node_step m c.args.step.now.pos) d c.requires.applies.0 c.requires.applies.1).0
    (c.in_ok-back.ensures c.args.step.now.pos ∙ ap (λ z. back_step m c.args.step.now.pos old z) c.in_ok-new.ensures)
    (ap (λ z. same_marks same_attrs z old) (sym (c.in_ok-restored.ensures ∙ ap (changed s b) c.in_ok-new.ensures)) ∙ (sym c.same-same.ensures.same ∙ c.if-same.true))))

pub returns : goal.returns
returns c =
    let s = documents_of c.args.schema.now.spec in
    let d = doc_with c.args.top.now c.args.content.now in
    let m = c.args.step.now.marking in
    let r = node-is s m c.args.step.now.pos d c.requires.applies.0 c.requires.applies.1 in
    let b = c.in_ok-back.back in
    let old = c.in-Some.old.now in
    let there = sym c.node_marks_at.ensures ∙ ap option_copied c.in-Some.is in
    c.in_ok-give_back.ensures
    ∙ (ap (λ z. z ++ given_back (Node c.args.step.now.pos) old c.in_ok-new.new) c.new-steps.ensures.items
    ∙ (ap (λ z. node_steps c.args.step.now.pos old z) c.in_ok-new.ensures
    ∙ node-by-marks s m b c.args.step.now.pos d old c.requires.good r.within r.whole there (made-ok s (node_step m c.args.step.now.pos) d c.requires.applies.0 c.requires.applies.1).0
    (c.in_ok-back.ensures c.args.step.now.pos ∙ ap (λ z. back_step m c.args.step.now.pos old z) c.in_ok-new.ensures)
    (ap (λ z. same_marks same_attrs z old) (sym (c.in_ok-restored.ensures ∙ ap (changed s b) c.in_ok-new.ensures)) ∙ (sym c.same-same.ensures.same ∙ c.if-same.false))))
