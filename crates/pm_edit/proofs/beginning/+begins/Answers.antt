use Rattle.std.proofs.Common.{◌≡◌, ◌+◌, ◌*◌, ◌<◌, length, arith, sym, ap, ◌∙◌}
use Rattle.pm_node.specs.Trees.{node_tokens}
use Rattle.pm_node.proofs.WalkLaws.{child-within}
use Rattle.pm_edit.proofs.BeginningLaws.{begins_at, begins-inside, begins-outside, begins-open, begins-text, begins-leaf, begins-end, stands-in, begins-among}
use Rattle.pm_edit.proofs.beginning.+begins.Goals as goal

pub begins_node-returns-then-size-pos : goal.begins_node-returns-then-size-pos
begins_node-returns-then-size-pos t c =
    sym (begins-end c.args.content.now c.args.pos (omega (arith, c.if-size-pos.true, c.size.ensures, ap length c.children-children.ensures.tokens)))

pub begins_node-begins_in-requires : goal.begins_node-begins_in-requires
begins_node-begins_in-requires t c =
    let xs = c.children-children.result in
    let d : 2 * length c.args.content.now + 1 ≡ t = c.decreases in
    let h = stands-in c.find-found.ensures (omega (arith, c.if-size-pos.false, c.size.ensures)) in
    let w = child-within xs _ c.get.result.now h c.get.ensures in
    let n = ap (λ m. length (node_tokens m)) c.deref.ensures in
    let g : 2 * length (node_tokens c.deref.result.now) < t = omega (arith, d, w, n, ap length c.children-children.ensures.tokens) in
    (g, omega (arith, c.find-found.ensures.inside c.get.result.now h c.get.ensures, n))

pub begins_node-returns : goal.begins_node-returns
begins_node-returns t c =
    let xs = c.children-children.result in
    let r = c.find-found.result.rest in
    let h = stands-in c.find-found.ensures (omega (arith, c.if-size-pos.false, c.size.ensures)) in
    c.begins_in.ensures ∙ (ap (λ m. begins_at (node_tokens m) r) c.deref.ensures
    ∙ (sym (begins-among xs c.args.pos _ r c.get.result.now c.find-found.ensures h c.get.ensures) ∙ ap (λ z. begins_at z c.args.pos) c.children-children.ensures.tokens))

pub begins_in-returns-in-Text : goal.begins_in-returns-in-Text
begins_in-returns-in-Text t c = sym (begins-text c.args.node.now c.in-Text.field-0 c.args.pos c.in-Text.is)

pub begins_in-returns-in-Leaf : goal.begins_in-returns-in-Leaf
begins_in-returns-in-Leaf t c = sym (begins-leaf c.args.node.now c.args.pos c.in-Leaf.is c.requires)

pub begins_in-returns-then-pos-eq0 : goal.begins_in-returns-then-pos-eq0
begins_in-returns-then-pos-eq0 t c = sym (begins-open c.args.node.now c.in-Children.inner c.args.pos c.in-Children.is c.if-pos-eq0.true)

pub begins_in-returns-then-size-pos : goal.begins_in-returns-then-size-pos
begins_in-returns-then-size-pos t c = sym (begins-outside c.args.node.now c.in-Children.inner c.args.pos c.in-Children.is c.requires (omega (arith, c.size-size.ensures.size, c.if-size-pos.true)))

pub begins_in-returns-else-size-pos : goal.begins_in-returns-else-size-pos
begins_in-returns-else-size-pos t c = c.begins_node.ensures ∙ sym (begins-inside c.args.node.now c.in-Children.inner c.args.pos c.in-Children.is (omega arith) (omega (arith, c.size-size.ensures.size, c.if-size-pos.false)))
