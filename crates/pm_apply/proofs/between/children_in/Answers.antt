use Rattle.std.proofs.Common.{◌≡◌, length, arith}
use Rattle.pm_node.specs.Trees.{list_tokens}
use Rattle.std.specs.Prelude.{min}
use Rattle.pm_apply.proofs.BetweenLaws.{between-is}
use Rattle.pm_apply.proofs.between.children_in.Goals as goal
use Rattle.pm_apply.proofs.between.children_in.Goals.{then-last-gt0, else-last-gt0}

pub returns : goal.returns
returns c =
    let total = c.size-size.ensures in
    let p : c.min-start.result ≡ min c.args.from (length (list_tokens c.args.children.now)) = omega (arith, c.min-start.ensures, total) in
    let q : c.min.result ≡ min c.args.to (length (list_tokens c.args.children.now)) = omega (arith, c.min.ensures, total) in
    elim c.if-last-gt0.branch [
      | then-last-gt0 w ↦ between-is c.find-first.ensures c.find-last.ensures c.args.from c.args.to c.if-last-gt0.end c.requires p q (λ k. w.end-is) (λ z. absurd (omega (arith, z, w.if-last-gt0)))
      | else-last-gt0 w ↦ between-is c.find-first.ensures c.find-last.ensures c.args.from c.args.to c.if-last-gt0.end c.requires p q (λ k. absurd (omega (arith, k, w.if-last-gt0))) (λ z. w.end-is)
    ]
