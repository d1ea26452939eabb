use Rattle.std.proofs.Common.{◌≡◌, ◌-◌, ap, sym, ◌∙◌, subst, arith}
use Rattle.pm_node.specs.declared.node.Node.{Node}
use Rattle.pm_node.specs.declared.node.Body.TheVariants.{Children}
use Rattle.pm_slice.specs.Sides.{closes_last}
use Rattle.pm_slice.proofs.SpineLaws.{closes-children, closes-flat}
use Rattle.pm_slice.proofs.spine.+ends_open.Goals as goal

pub returns-in-Children : goal.returns-in-Children
returns-in-Children t c =
    let is = subst (λ (n : Node). n.body ≡ Children c.in-Children.inner) c.deref.ensures c.in-Children.is in
    c.ends_open.ensures ∙ sym (ap (closes_last c.args.depth) (sym c.children-children.ensures.tokens)
    ∙ closes-children c.args.depth (omega arith) c.children-children.result (c.len-len.result - 1) c.get.result.now (omega arith) c.get.ensures c.in-Children.inner is)

pub returns-in_default : goal.returns-in_default
returns-in_default t c =
    sym (ap (closes_last c.args.depth) (sym c.children-children.ensures.tokens)
    ∙ closes-flat c.args.depth (omega arith) c.children-children.result (c.len-len.result - 1) c.get.result.now (omega arith) c.get.ensures c.children-children.ensures.normal
    (λ ts h. c.in_default.not-Children ts (subst (λ (n : Node). n.body ≡ Children ts) (sym c.deref.ensures) h)))
