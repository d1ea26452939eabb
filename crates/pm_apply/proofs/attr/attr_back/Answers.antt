use Rattle.std.proofs.Common.{ap, sym, ◌∙◌}
use Rattle.std.specs.Option.{option_map, option_copied}
use Rattle.pm_value.specs.Views.{plain}
use Rattle.pm_schema.specs.Documents.{documents_of}
use Rattle.pm_node.specs.Documents.{doc_with}
use Rattle.pm_apply.specs.Nodes.{node_head}
use Rattle.pm_apply.proofs.KnownLaws.{node-known}
use Rattle.pm_apply.proofs.AttrOutcomes.{head-there, head-fit}
use Rattle.pm_apply.proofs.attr.attr_back.Goals as goal

pub unreachable-requires : goal.unreachable-requires
unreachable-requires c =
    let step = c.args.step.now in
    head-there (documents_of c.args.schema.now.spec) step.pos step.attr (plain step.value) (doc_with c.args.top.now c.args.content.now) c.requires.applies.0 c.requires.good c.requires.applies.1
    (sym c.node_at.ensures ∙ ap (λ o. option_map node_head (option_copied o)) c.in_default.is)

pub old_value-requires : goal.old_value-requires
old_value-requires c =
    let s = c.args.schema.now.spec in
    let h = node_head c.in-Some.node.now in
    let there = sym c.node_at.ensures ∙ ap (λ o. option_map node_head (option_copied o)) c.in-Some.is in
    let fit = head-fit (documents_of s) c.args.step.now.pos (doc_with c.args.top.now c.args.content.now) h c.requires.good there in
    record { known = node-known s h.kind h.attrs fit; fit = fit }
