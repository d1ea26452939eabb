use Rattle.std.proofs.Common.{◌≡◌, ◌+◌, ◌*◌, ◌<◌, length, arith, sym, ap, ◌∙◌}
use Rattle.std.proofs.lemmas.Option.{slice_get-get_or}
use Rattle.pm_node.specs.Trees.{node_tokens}
use Rattle.pm_node.specs.declared.node.Body.TheVariants.{Text}
use Rattle.pm_node.proofs.TreeLaws.{node_tokens_at, length-text_tokens}
use Rattle.pm_build.specs.Positions.{unit_at}
use Rattle.pm_node.proofs.WalkLaws.{child-within}
use Rattle.pm_build.proofs.FoundLaws.{unit-found, unit-past, found-within}
use Rattle.pm_build.proofs.PositionLaws.{unit-inside, unit-outside, unit-open, unit-text, unit-leaf}
use Rattle.pm_build.proofs.position.+unit.Goals as goal

pub unit_at-get-child-requires : goal.unit_at-get-child-requires
unit_at-get-child-requires t c =
    found-within c.children-children.result _ _ _ c.find-found.ensures (omega (arith, c.if-size-pos.false, c.size.ensures.size, ap length c.children-children.ensures.tokens))

pub unit_at-unit_in-requires : goal.unit_at-unit_in-requires
unit_at-unit_in-requires t c =
    let d : 2 * length c.args.content.now + 1 ≡ t = c.decreases in
    let xs = c.children-children.result in
    let h = found-within xs _ _ _ c.find-found.ensures (omega (arith, c.if-size-pos.false, c.size.ensures.size, ap length c.children-children.ensures.tokens)) in
    let w = child-within xs _ c.get-child.result.now h c.get-child.ensures in
    let n = ap (λ m. length (node_tokens m)) c.deref.ensures in
    let g : 2 * length (node_tokens c.deref.result.now) < t = omega (arith, d, w, n, ap length c.children-children.ensures.tokens) in
    (g, omega (arith, n, c.find-found.ensures.inside c.get-child.result.now h c.get-child.ensures))

pub unit_at-returns-then-size-pos : goal.unit_at-returns-then-size-pos
unit_at-returns-then-size-pos t c = sym (unit-past c.args.content.now c.args.pos (omega (arith, c.if-size-pos.true, c.size.ensures.size)))

pub unit_at-returns : goal.unit_at-returns
unit_at-returns t c =
    let xs = c.children-children.result in
    let e = c.children-children.ensures in
    let h = found-within xs _ _ _ c.find-found.ensures (omega (arith, c.if-size-pos.false, c.size.ensures.size, ap length e.tokens)) in
    c.unit_in.ensures ∙ (ap (λ m. unit_at (node_tokens m) c.find-found.result.rest) c.deref.ensures
    ∙ (sym (unit-found xs _ _ _ c.get-child.result.now e.each c.find-found.ensures h c.get-child.ensures) ∙ ap (λ z. unit_at z c.args.pos) e.tokens))

pub unit_in-returns-in-Leaf : goal.unit_in-returns-in-Leaf
unit_in-returns-in-Leaf t c = sym (unit-leaf c.args.node.now c.args.pos c.in-Leaf.is)

pub unit_in-returns-then-pos-eq0 : goal.unit_in-returns-then-pos-eq0
unit_in-returns-then-pos-eq0 t c = sym (unit-open c.args.node.now c.in-Children.inner c.args.pos c.in-Children.is c.if-pos-eq0.true)

pub unit_in-returns-then-size-pos : goal.unit_in-returns-then-size-pos
unit_in-returns-then-size-pos t c = sym (unit-outside c.args.node.now c.in-Children.inner c.args.pos c.in-Children.is c.requires (omega (arith, c.size-size.ensures.size, c.if-size-pos.true)))

pub unit_in-returns-else-size-pos : goal.unit_in-returns-else-size-pos
unit_in-returns-else-size-pos t c = c.unit_at.ensures ∙ sym (unit-inside c.args.node.now c.in-Children.inner c.args.pos c.in-Children.is (omega arith) (omega (arith, c.size-size.ensures.size, c.if-size-pos.false)))

pub unit_in-returns-in-Text : goal.unit_in-returns-in-Text
unit_in-returns-in-Text t c =
    let n = c.args.node.now in
    let us = c.in-Text.units in
    let size : length (node_tokens n) ≡ length us = ap length (node_tokens_at n (Text us) c.in-Text.is) ∙ length-text_tokens n.marks us in
    let lt : c.args.pos < length us = omega (arith, c.requires, size) in
    c.unit.ensures ∙ (slice_get-get_or us c.args.pos 0 lt ∙ sym (unit-text n us c.args.pos c.in-Text.is lt))
