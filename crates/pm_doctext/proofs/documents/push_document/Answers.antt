use Rattle.std.proofs.Common.{string_bytes}
use Rattle.pm_doctext.proofs.Between.{text-after}
use Rattle.pm_doctext.proofs.documents.push_document.Goals as goal

pub returns : goal.returns
returns c =
    text-after c.args.schema.now.spec c.args.document.now c.in_ok-parts.parts c.in_ok-parts.ensures.whole c.in_ok-parts.ensures.parts c.push_bottom.result
    (string_bytes c.args.text.now) (string_bytes c.push_top.new.text) (string_bytes c.push_parts.new.text) (string_bytes c.push_bottom.new.text)
    c.in_ok-push_top.ensures c.in_ok-push_parts.ensures c.push_bottom.ensures
