use Rattle.std.proofs.Common.{◌≡◌, ◌+◌, ◌*◌, ◌<◌, length, arith, sym, ap, ◌∙◌}
use Rattle.pm_node.specs.Trees.{node_tokens}
use Rattle.pm_node.proofs.WalkLaws.{child-within}
use Rattle.pm_apply.proofs.HeadLaws.{head_at, head-inside, head-outside, head-open, head-text, head-leaf, head-end, stands-in, head-among}
use Rattle.pm_apply.proofs.sides.+node_at.Goals as goal

pub node_at-returns-then-size-pos : goal.node_at-returns-then-size-pos
node_at-returns-then-size-pos t c =
    sym (head-end c.args.content.now c.args.pos (omega (arith, c.if-size-pos.true, c.size.ensures, ap length c.children-children.ensures.tokens)))

pub node_at-node_in-requires : goal.node_at-node_in-requires
node_at-node_in-requires t c =
    let xs = c.children-children.result in
    let d : 2 * length c.args.content.now + 1 ≡ t = c.decreases in
    let h = stands-in c.find-found.ensures (omega (arith, c.if-size-pos.false, c.size.ensures)) in
    let w = child-within xs _ c.get.result.now h c.get.ensures in
    let n = ap (λ m. length (node_tokens m)) c.deref.ensures in
    let g : 2 * length (node_tokens c.deref.result.now) < t = omega (arith, d, w, n, ap length c.children-children.ensures.tokens) in
    (g, omega (arith, c.find-found.ensures.inside c.get.result.now h c.get.ensures, n))

pub node_at-returns : goal.node_at-returns
node_at-returns t c =
    let xs = c.children-children.result in
    let r = c.find-found.result.rest in
    let h = stands-in c.find-found.ensures (omega (arith, c.if-size-pos.false, c.size.ensures)) in
    c.node_in.ensures ∙ (ap (λ m. head_at (node_tokens m) r) c.deref.ensures
    ∙ (sym (head-among xs c.args.pos _ r c.get.result.now c.find-found.ensures h c.get.ensures) ∙ ap (λ z. head_at z c.args.pos) c.children-children.ensures.tokens))

pub node_in-returns-in-Text : goal.node_in-returns-in-Text
node_in-returns-in-Text t c = sym (head-text c.args.node.now c.in-Text.field-0 c.args.pos c.in-Text.is)

pub node_in-returns-in-Leaf : goal.node_in-returns-in-Leaf
node_in-returns-in-Leaf t c = sym (head-leaf c.args.node.now c.args.pos c.in-Leaf.is c.requires)

pub node_in-returns-then-pos-eq0 : goal.node_in-returns-then-pos-eq0
node_in-returns-then-pos-eq0 t c = sym (head-open c.args.node.now c.in-Children.inner c.args.pos c.in-Children.is c.if-pos-eq0.true)

pub node_in-returns-then-size-pos : goal.node_in-returns-then-size-pos
node_in-returns-then-size-pos t c = sym (head-outside c.args.node.now c.in-Children.inner c.args.pos c.in-Children.is c.requires (omega (arith, c.size-size.ensures.size, c.if-size-pos.true)))

pub node_in-returns-else-size-pos : goal.node_in-returns-else-size-pos
node_in-returns-else-size-pos t c = c.node_at.ensures ∙ sym (head-inside c.args.node.now c.in-Children.inner c.args.pos c.in-Children.is (omega arith) (omega (arith, c.size-size.ensures.size, c.if-size-pos.false)))
