use Rattle.std.proofs.Common.{ap, ◌∙◌, subst, length, arith}
use Rattle.pm_tokens.specs.Scan.{Balanced}
use Rattle.pm_node.proofs.node.Fragment.size.Goals as goal

pub returns-clause-size : goal.returns-clause-size
returns-clause-size c =
    let k = c.self.invariant in
    c.total.ensures ∙ (k.form.counted ∙ ap length c.self.view_is)

pub returns-clause-bound : goal.returns-clause-bound
returns-clause-bound c = omega (arith, c.total.ensures, c.self.invariant.form.bounded)

pub returns-clause-whole : goal.returns-clause-whole
returns-clause-whole c = subst Balanced c.self.view_is c.self.invariant.form.whole
