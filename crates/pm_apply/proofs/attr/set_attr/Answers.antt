use Rattle.std.proofs.Common.{drop, arith, ap, sym, ◌∙◌}
use Rattle.std.specs.Prelude.{Ok}
use Rattle.std.specs.Option.{option_map, option_copied}
use Rattle.pm_value.specs.Views.{plain}
use Rattle.pm_schema.specs.Documents.{documents_of}
use Rattle.pm_node.specs.Documents.{doc_with}
use Rattle.pm_apply.specs.Nodes.{node_head}
use Rattle.pm_apply.proofs.KnownLaws.{node-known}
use Rattle.pm_apply.proofs.AttrOutcomes.{attr-refused, attr-paired, attr-missing, attr-fails, attr-settles, attr-place, has-place, head-fit}
use Rattle.pm_apply.proofs.attr.set_attr.Goals as goal

pub returns-then-size-pos : goal.returns-then-size-pos
returns-then-size-pos c =
    let step = c.args.step.now in
    attr-refused (documents_of c.args.schema.now.spec) step.pos step.attr (plain step.value) (doc_with c.args.top.now c.args.content.now) (omega (arith, c.if-size-pos.true, c.size-size.ensures.size))

pub returns-then-parts_pair : goal.returns-then-parts_pair
returns-then-parts_pair c =
    let step = c.args.step.now in
    attr-paired (documents_of c.args.schema.now.spec) step.pos step.attr (plain step.value) (doc_with c.args.top.now c.args.content.now)
    (omega (arith, c.if-size-pos.false, c.size-size.ensures.size)) (sym c.parts_pair.ensures ∙ c.if-parts_pair.true)

pub returns-in_default : goal.returns-in_default
returns-in_default c =
    let step = c.args.step.now in
    attr-missing (documents_of c.args.schema.now.spec) step.pos step.attr (plain step.value) (doc_with c.args.top.now c.args.content.now)
    (omega (arith, c.if-size-pos.false, c.size-size.ensures.size)) (sym c.parts_pair.ensures ∙ c.if-parts_pair.false)
    (sym c.node_at.ensures ∙ ap (λ o. option_map node_head (option_copied o)) c.in_default.is)

pub settle-requires : goal.settle-requires
settle-requires c =
    let s = c.args.schema.now.spec in
    let d = doc_with c.args.top.now c.args.content.now in
    let h = node_head c.in-Some.node.now in
    let there = sym c.node_at.ensures ∙ ap (λ o. option_map node_head (option_copied o)) c.in-Some.is in
    node-known s h.kind h.attrs (head-fit (documents_of s) c.args.step.now.pos d h c.requires there)

pub returns-in-Err : goal.returns-in-Err
returns-in-Err c =
    let step = c.args.step.now in
    let h = node_head c.in-Some.node.now in
    let there = sym c.node_at.ensures ∙ ap (λ o. option_map node_head (option_copied o)) c.in-Some.is in
    attr-fails (documents_of c.args.schema.now.spec) step.pos step.attr (plain step.value) (doc_with c.args.top.now c.args.content.now)
    (omega (arith, c.if-size-pos.false, c.size-size.ensures.size)) (sym c.parts_pair.ensures ∙ c.if-parts_pair.false) c.requires h there c.in-Err.reason (sym c.in-Err.ensures)

pub value_content-requires : goal.value_content-requires
value_content-requires c =
    let step = c.args.step.now in
    let ts = c.args.content.now in
    let h = node_head c.in-Some.node.now in
    let there = sym c.node_at.ensures ∙ ap (λ o. option_map node_head (option_copied o)) c.in-Some.is in
    has-place (drop step.pos ts) h c.in-Ok.place there
    (attr-place (documents_of c.args.schema.now.spec) step.pos step.attr (plain step.value) (doc_with c.args.top.now ts)
    (omega (arith, c.if-size-pos.false, c.size-size.ensures.size)) (sym c.parts_pair.ensures ∙ c.if-parts_pair.false) c.requires h there c.in-Ok.place (sym c.in-Ok.ensures))

pub returns-in_ok-next-in-Ok : goal.returns-in_ok-next-in-Ok
returns-in_ok-next-in-Ok c =
    let step = c.args.step.now in
    let top = c.args.top.now in
    let h = node_head c.in-Some.node.now in
    let there = sym c.node_at.ensures ∙ ap (λ o. option_map node_head (option_copied o)) c.in-Some.is in
    attr-settles (documents_of c.args.schema.now.spec) step.pos step.attr (plain step.value) (doc_with top c.args.content.now)
    (omega (arith, c.if-size-pos.false, c.size-size.ensures.size)) (sym c.parts_pair.ensures ∙ c.if-parts_pair.false) c.requires h there c.in-Ok.place (sym c.in-Ok.ensures)
    ∙ ap Ok (sym (c.in_ok-next-in-Ok.ensures ∙ ap (doc_with top) c.in_ok-made-in-Ok.ensures))
