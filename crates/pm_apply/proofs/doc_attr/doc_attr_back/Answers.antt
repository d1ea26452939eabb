use Rattle.pm_node.specs.Documents.{doc_with}
use Rattle.pm_apply.proofs.KnownLaws.{top-known}
use Rattle.pm_apply.proofs.doc_attr.doc_attr_back.Goals as goal

pub old_value-requires : goal.old_value-requires
old_value-requires c = record {
  known = top-known c.args.schema.now.spec (doc_with c.args.top.now c.args.content.now) c.requires;
  fit = c.requires.top_attrs;
}
