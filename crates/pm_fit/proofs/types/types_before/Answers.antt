use Rattle.std.specs.Prelude.{None, take, IfOk}
use Rattle.std.proofs.Common.{◌≡◌, ap, sym, ◌∙◌, subst}
use Rattle.pm_tokens.specs.Kids.{kids}
use Rattle.pm_tokens.proofs.ListLaws.{take-nil}
use Rattle.pm_schema.specs.Documents.{documents_of}
use Rattle.pm_node.specs.Documents.{content_tokens}
use Rattle.pm_fit.proofs.types.types_before.Goals as goal

pub returns-in-Children : goal.returns-in-Children
returns-in-Children c =
    let text = (documents_of c.args.schema.now.spec).text in
    subst (λ ts. IfOk c.types_within.result (λ l. l ≡ kids text 0 None (take c.args.pos ts))) (sym (ap (content_tokens c.args.node.now.marks) c.in-Children.is)) c.types_within.ensures

pub returns-in-Leaf : goal.returns-in-Leaf
returns-in-Leaf c =
    let text = (documents_of c.args.schema.now.spec).text in
    c.new.ensures ∙ (sym (ap (kids text 0 None) (take-nil c.args.pos)) ∙ ap (λ ts. kids text 0 None (take c.args.pos ts)) (sym (ap (content_tokens c.args.node.now.marks) c.in-Leaf.is)))

pub returns-in-Text : goal.returns-in-Text
returns-in-Text c =
    let text = (documents_of c.args.schema.now.spec).text in
    subst (λ ts. IfOk c.types_in_text.result (λ l. l ≡ kids text 0 None (take c.args.pos ts))) (sym (ap (content_tokens c.args.node.now.marks) c.in-Text.is)) (c.types_in_text.ensures c.args.node.now.marks)
