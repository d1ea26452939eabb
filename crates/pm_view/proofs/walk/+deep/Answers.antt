use Rattle.std.proofs.Common.{◌≡◌, ◌+◌, ◌-◌, ◌*◌, ◌<◌, length, max, arith, ap, sym, ◌∙◌, refl, subst}
use Rattle.std.specs.Arc.{arc_value}
use Rattle.pm_node.specs.Trees.{node_tokens}
use Rattle.pm_node.proofs.WalkLaws.{child-within, in-range}
use Rattle.pm_view.specs.Deep.{NoDeeper, NodeNoDeeper}
use Rattle.pm_view.proofs.DepthLaws.{Looked, looked-start, looked-more, looked-room, deeper-inner, deeper-flat}
use Rattle.pm_view.proofs.walk.+deep.Goals as goal

pub depth_in-returns-in-Children-clause-deep : goal.depth_in-returns-in-Children-clause-deep
depth_in-returns-in-Children-clause-deep t c =
    let n = c.args.node.now in
    let inner = c.in-Children.inner in
    let most = c.depth_within.result in
    let d : NoDeeper inner (c.args.from - 1) (c.args.to - 1) most = λ p l u b. c.depth_within.ensures.deep p (omega (arith, l, c.saturating_sub.ensures)) (omega (arith, u, c.saturating_sub-in-Children.ensures)) b in
    deeper-inner n inner c.args.from c.args.to most c.in-Children.is c.size.ensures.whole d

pub depth_in-returns-in_default : goal.depth_in-returns-in_default
depth_in-returns-in_default t c = record { deep = deeper-flat c.args.node.now c.args.from c.args.to c.in_default.not-Children; bound = omega arith }

pub depth_within-loop-i-init : goal.depth_within-loop-i-init
depth_within-loop-i-init t c =
    (looked-start c.children-children.result c.children-children.ensures.each c.args.from c.args.to c.find-found.result.index c.find-found.result.rest c.min-start.result _ c.find-found.ensures (omega (arith, c.min-start.ensures)) refl, omega arith)

pub depth_within-depth_in-here-requires : goal.depth_within-depth_in-here-requires
depth_within-depth_in-here-requires t c =
    let xs = c.children-children.result in
    let e = c.children-children.ensures in
    let d : 2 * length c.args.content.now + 1 ≡ t = c.decreases in
    let w = child-within xs _ c.get.result.now (in-range c.len-i-end.ensures c.loop-i-test.true) c.get.ensures in
    let g : 2 * length (node_tokens c.deref-child.result.now) < t = omega (arith, d, w, ap (λ m. length (node_tokens m)) c.deref-child.ensures, ap length e.tokens) in
    (g, tt)

pub depth_within-overflow_add-at : goal.depth_within-overflow_add-at
depth_within-overflow_add-at t c =
    let xs = c.children-children.result in
    let e = c.children-children.ensures in
    let room = looked-room xs e.each c.args.from c.args.to c.loop-i.i c.loop-i.at c.loop-i.most c.get.result.now (in-range c.len-i-end.ensures c.loop-i-test.true) c.get.ensures c.loop-i.invariant.0 in
    omega (arith, room, e.bound, c.size-size.ensures.size, ap (λ m. length (node_tokens m)) c.deref-child.ensures)

pub depth_within-loop-i-preserved : goal.depth_within-loop-i-preserved
depth_within-loop-i-preserved t c =
    let xs = c.children-children.result in
    let e = c.children-children.ensures in
    let x = c.get.result.now in
    let at = c.loop-i.at in
    let here = c.depth_in-here.result in
    let lt = in-range c.len-i-end.ensures c.loop-i-test.true in
    let size : length (node_tokens (arc_value x)) ≡ c.size-size.result = sym (ap (λ m. length (node_tokens m)) c.deref-child.ensures) ∙ sym c.size-size.ensures.size in
    let own : NodeNoDeeper c.deref-child.result.now (c.args.from - at) (c.args.to - at) here = λ p l u b. c.depth_in-here.ensures.deep p (omega (arith, l, c.saturating_sub.ensures)) u b in
    let d : NodeNoDeeper (arc_value x) (c.args.from - at) (c.args.to - at) here = subst (λ m. NodeNoDeeper m (c.args.from - at) (c.args.to - at) here) c.deref-child.ensures own in
    let more = looked-more xs e.each c.args.from c.args.to c.loop-i.i at c.loop-i.most here x lt c.get.ensures c.loop-i.invariant.0 d in
    let w = child-within xs _ x lt c.get.ensures in (
      subst (λ m. Looked xs (c.loop-i.i + 1) (at + c.size-size.result) c.args.from c.args.to m) (sym c.max-most.ensures) (subst (λ s. Looked xs (c.loop-i.i + 1) (at + s) c.args.from c.args.to (max c.loop-i.most here)) size more),
      omega (arith, c.max-most.ensures, c.loop-i.invariant.1, c.depth_in-here.ensures.bound, w, ap (λ m. length (node_tokens m)) c.deref-child.ensures),
    )
