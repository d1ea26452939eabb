use Rattle.std.proofs.Common.{◌≡◌, ap, sym, ◌∙◌, subst, arith}
use Rattle.pm_node.specs.declared.node.Node.{Node}
use Rattle.pm_node.specs.declared.node.Body.TheVariants.{Children}
use Rattle.pm_slice.specs.Sides.{opens_first}
use Rattle.pm_slice.proofs.SpineLaws.{opens-children, opens-flat}
use Rattle.pm_slice.proofs.spine.+starts_open.Goals as goal

pub returns-in-Children : goal.returns-in-Children
returns-in-Children t c =
    let is = subst (λ (n : Node). n.body ≡ Children c.in-Children.inner) c.deref.ensures c.in-Children.is in
    c.starts_open.ensures ∙ sym (ap (opens_first c.args.depth) (sym c.children-children.ensures.tokens)
    ∙ opens-children c.args.depth (omega arith) c.children-children.result c.get.result.now c.in-Children.inner (omega arith) c.get.ensures is)

pub returns-in_default : goal.returns-in_default
returns-in_default t c =
    sym (ap (opens_first c.args.depth) (sym c.children-children.ensures.tokens)
    ∙ opens-flat c.args.depth (omega arith) c.children-children.result c.get.result.now c.children-children.ensures.normal (omega arith) c.get.ensures
    (λ ts h. c.in_default.not-Children ts (subst (λ (n : Node). n.body ≡ Children ts) (sym c.deref.ensures) h)))
