use Rattle.std.proofs.Common.{◌∙◌, sym, ap, subst, ◌<◌, ℕ, List, Option, IfSome, length}
use Rattle.pm_auto.specs.declared.auto.Edge.{Edge}
use Rattle.pm_auto.specs.Walks.{target}
use Rattle.pm_auto.proofs.GraphLaws.{target-state}
use Rattle.pm_auto.proofs.auto.Auto.next.Goals as goal

pub returns-clause-inside : goal.returns-clause-inside
returns-clause-inside c =
    let e = c.target_of.ensures ∙ ap (λ (es : List Edge). target c.args.kind es) c.edges.ensures in
    subst (λ (o : Option ℕ). IfSome o (λ t. t < length c.args.self.now.sets)) (sym e) (target-state (length c.args.self.now.sets) c.args.kind c.args.state c.args.self.now.edges c.args.self.now.graph)
