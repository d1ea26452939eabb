use Rattle.std.specs.Prelude.{Ok}
use Rattle.std.proofs.Common.{ap, sym, ◌∙◌}
use Rattle.pm_value.specs.Views.{plain}
use Rattle.pm_schema.specs.Documents.{documents_of}
use Rattle.pm_node.specs.Documents.{doc_with}
use Rattle.pm_apply.proofs.KnownLaws.{top-known}
use Rattle.pm_apply.proofs.AttrOutcomes.{doc-fails, doc-settles, doc-place, top-made}
use Rattle.pm_apply.proofs.doc_attr.set_doc_attr.Goals as goal

pub settle-requires : goal.settle-requires
settle-requires c = top-known c.args.schema.now.spec (doc_with c.args.top.now c.args.content.now) c.requires

pub with_value-requires : goal.with_value-requires
with_value-requires c =
    doc-place (documents_of c.args.schema.now.spec) c.args.step.now.attr (plain c.args.step.now.value) (doc_with c.args.top.now c.args.content.now) c.requires c.in-Ok.place (sym c.in-Ok.ensures)

pub returns-in-Err : goal.returns-in-Err
returns-in-Err c =
    doc-fails (documents_of c.args.schema.now.spec) c.args.step.now.attr (plain c.args.step.now.value) (doc_with c.args.top.now c.args.content.now) c.requires c.in-Err.reason (sym c.in-Err.ensures)

pub returns-in_ok-next-in-Ok : goal.returns-in_ok-next-in-Ok
returns-in_ok-next-in-Ok c =
    let top = c.args.top.now in
    doc-settles (documents_of c.args.schema.now.spec) c.args.step.now.attr (plain c.args.step.now.value) (doc_with top c.args.content.now) c.requires c.in-Ok.place (sym c.in-Ok.ensures)
    ∙ ap Ok (sym (c.in_ok-next-in-Ok.ensures ∙ top-made top.kind _ _ _ _ _ _ c.in_ok-with_value-in-Ok.ensures c.in_ok-copy-in-Ok.ensures c.in_ok-copy-in-Ok-2.ensures))
