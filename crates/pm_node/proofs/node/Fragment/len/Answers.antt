use Rattle.std.proofs.Common.{ap, sym, ◌∙◌, length}
use Rattle.pm_tokens.specs.Kids.{children}
use Rattle.pm_node.proofs.KindLaws.{children-list, length-child_tokens}
use Rattle.pm_node.proofs.node.Fragment.len.Goals as goal

pub returns : goal.returns
returns c =
    let xs = c.children-children.result in
    let e = c.children-children.ensures in
    c.len.ensures ∙ (sym (length-child_tokens xs) ∙ ap length (sym (children-list xs e.normal e.each) ∙ ap children e.tokens))
