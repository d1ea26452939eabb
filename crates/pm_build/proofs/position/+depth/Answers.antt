use Rattle.std.proofs.Common.{◌≡◌, ◌+◌, ◌*◌, ◌<◌, length, arith, sym, ap, ◌∙◌}
use Rattle.pm_tokens.specs.Scan.{depth_at}
use Rattle.pm_node.specs.Trees.{node_tokens}
use Rattle.pm_node.proofs.WalkLaws.{child-within, in-range, past-range}
use Rattle.pm_build.proofs.FoundLaws.{depth-found, depth-last}
use Rattle.pm_build.proofs.PositionLaws.{depth-inside, depth-flat}
use Rattle.pm_build.proofs.position.+depth.Goals as goal

pub depth_at-depth_in-requires : goal.depth_at-depth_in-requires
depth_at-depth_in-requires t c =
    let d : 2 * length c.args.content.now + 1 ≡ t = c.decreases in
    let h = in-range c.len.ensures c.if-found-len.true in
    let w = child-within c.children-children.result _ c.get-child.result.now h c.get-child.ensures in
    let n = ap (λ m. length (node_tokens m)) c.deref.ensures in
    let g : 2 * length (node_tokens c.deref.result.now) < t = omega (arith, d, w, n, ap length c.children-children.ensures.tokens) in
    (g, omega (arith, n, c.find-found.ensures.inside c.get-child.result.now h c.get-child.ensures))

pub depth_at-returns-then-found-len : goal.depth_at-returns-then-found-len
depth_at-returns-then-found-len t c =
    let xs = c.children-children.result in
    let e = c.children-children.ensures in
    let h = in-range c.len.ensures c.if-found-len.true in
    record {
      depth = c.depth_in.ensures.depth ∙ (ap (λ m. depth_at (node_tokens m) c.find-found.result.rest) c.deref.ensures
          ∙ (sym (depth-found xs _ _ _ c.get-child.result.now e.each c.find-found.ensures h c.get-child.ensures) ∙ ap (λ z. depth_at z c.args.pos) e.tokens));
      bound = omega (arith, c.depth_in.ensures.bound, c.find-found.ensures.offset);
    }

pub depth_at-returns-else-found-len : goal.depth_at-returns-else-found-len
depth_at-returns-else-found-len t c =
    let e = c.children-children.ensures in
    record {
      depth = sym (depth-last c.children-children.result _ _ _ e.each c.find-found.ensures (past-range c.len.ensures c.if-found-len.false)) ∙ ap (λ z. depth_at z c.args.pos) e.tokens;
      bound = omega arith;
    }

pub depth_in-returns-else-pos-eq0-clause-depth : goal.depth_in-returns-else-pos-eq0-clause-depth
depth_in-returns-else-pos-eq0-clause-depth t c =
    ap (λ n. 1 + n) c.depth_at.ensures.depth ∙ sym (depth-inside c.args.node.now c.in-Children.inner c.args.pos c.in-Children.is c.size.ensures.whole (omega arith) c.requires)

pub depth_in-returns-in_default : goal.depth_in-returns-in_default
depth_in-returns-in_default t c = record { depth = sym (depth-flat c.args.node.now c.args.pos c.in_default.not-Children); bound = omega arith }
