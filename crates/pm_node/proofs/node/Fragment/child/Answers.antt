use Rattle.std.proofs.Common.{◌≡◌, ◌<◌, ap, sym, ◌∙◌, length, arith, get_or, []}
use Rattle.pm_tokens.specs.Kids.{children}
use Rattle.pm_node.specs.Trees.{node_tokens}
use Rattle.std.specs.Arc.{arc_value}
use Rattle.pm_node.proofs.KindLaws.{child_tokens, children-list, length-child_tokens, child_tokens-at}
use Rattle.pm_node.proofs.node.Fragment.child.Goals as goal
use Rattle.pm_node.proofs.node.Fragment.child.Goals.{After-children-children}

-- the tokens of the children, by the tokens of all
parts : (c : After-children-children) → children c.args.self.now ≡ child_tokens c.children-children.result
parts c = ap children (sym c.children-children.ensures.tokens) ∙ children-list c.children-children.result c.children-children.ensures.normal c.children-children.ensures.each

within : (c : After-children-children) → c.args.i < length c.children-children.result
within c = omega (arith, c.requires, ap length (parts c), length-child_tokens c.children-children.result)

pub get-requires : goal.get-requires
get-requires c = omega (arith, c.requires, ap length (ap children (sym c.children-children.ensures.tokens) ∙ children-list c.children-children.result c.children-children.ensures.normal c.children-children.ensures.each), length-child_tokens c.children-children.result)

pub returns : goal.returns
returns c =
    let xs = c.children-children.result in
    let at = (goal.at.returns c).After-children-children in
    ap node_tokens (c.deref.ensures ∙ ap arc_value c.get.ensures) ∙ (sym (child_tokens-at xs c.args.i c.get.result.now (within at)) ∙ ap (λ z. get_or z c.args.i []) (sym (parts at)))
