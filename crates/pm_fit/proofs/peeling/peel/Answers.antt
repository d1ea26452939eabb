use Rattle.std.proofs.Common.{◌≡◌, ap, sym, ◌∙◌, subst, arith}
use Rattle.pm_node.specs.declared.node.Node.{Node}
use Rattle.pm_node.specs.declared.node.Body.TheVariants.{Children}
use Rattle.pm_fit.specs.Candidates.{can_be_peeled}
use Rattle.pm_fit.proofs.NodeLaws.{peel-not-one, peel-flat, peel-can}
use Rattle.pm_fit.proofs.peeling.peel.Goals as goal

pub returns-then-len-ne1-clause-cannot : goal.returns-then-len-ne1-clause-cannot
returns-then-len-ne1-clause-cannot c = λ h.
    let e = c.children-children.ensures in
    ap can_be_peeled (sym e.tokens) ∙ peel-not-one c.children-children.result e.normal e.each (λ z. c.if-len-ne1.true (c.len.ensures ∙ z))

pub returns-else-size-eq0-clause-can : goal.returns-else-size-eq0-clause-can
returns-else-size-eq0-clause-can c =
    let e = c.children-children.ensures in
    let is = subst (λ (n : Node). n.body ≡ Children c.in-Children.inner) c.deref.ensures c.in-Children.is in
    ap can_be_peeled (sym e.tokens) ∙ peel-can c.children-children.result c.get.result.now c.in-Children.inner e.normal e.each (sym c.len.ensures ∙ c.if-len-ne1.false) c.get.ensures is (λ z. c.if-size-eq0.false (c.size.ensures.size ∙ z))

pub returns-in_default : goal.returns-in_default
returns-in_default c =
    let e = c.children-children.ensures in
    record {
      can = tt;
      inner = tt;
      cannot = λ h. ap can_be_peeled (sym e.tokens) ∙ peel-flat c.children-children.result e.normal e.each c.get.result.now (omega arith) c.get.ensures
          (λ ts q. c.in_default.not-Children ts (subst (λ (n : Node). n.body ≡ Children ts) (sym c.deref.ensures) q));
    }
