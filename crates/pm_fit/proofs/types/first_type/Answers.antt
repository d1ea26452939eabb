use Rattle.std.specs.Prelude.{Some}
use Rattle.std.proofs.Common.{ap, sym, ◌∙◌, arith}
use Rattle.pm_schema.specs.Documents.{documents_of}
use Rattle.pm_node.specs.Kinds.{kind_in}
use Rattle.pm_fit.specs.Wrappings.{first_type}
use Rattle.pm_fit.proofs.NodeLaws.{first-empty, first-list}
use Rattle.pm_fit.proofs.types.first_type.Goals as goal

pub returns-then-len-eq0 : goal.returns-then-len-eq0
returns-then-len-eq0 c =
    let text = (documents_of c.args.schema.now.spec).text in
    first-empty text c.children-children.result (sym c.len.ensures ∙ c.if-len-eq0.true) ∙ ap (first_type text) c.children-children.ensures.tokens

pub returns : goal.returns
returns c =
    let text = (documents_of c.args.schema.now.spec).text in
    let e = c.children-children.ensures in
    ap Some (c.type_of.ensures ∙ ap (kind_in text) c.deref.ensures)
    ∙ (sym (first-list text c.children-children.result c.get.result.now e.normal (omega arith) c.get.ensures) ∙ ap (first_type text) e.tokens)
