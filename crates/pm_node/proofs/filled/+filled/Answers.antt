use Rattle.std.proofs.Common.{◌≡◌, ◌+◌, ◌-◌, ◌*◌, ◌<◌, suc, map, drop, get_or, length, true, false, arith, ap, sym, ◌∙◌, subst}
use Rattle.std.specs.Prelude.{Some}
use Rattle.std.specs.Arc.{arc_value}
use Rattle.pm_auto.specs.Finish.{all_can}
use Rattle.pm_schema.specs.Types.{node_at, is_leaf}
use Rattle.pm_node.specs.Trees.{node_tokens}
use Rattle.pm_node.specs.Filled.{both, joined, filled_tokens}
use Rattle.pm_node.specs.Sizes.{Small}
use Rattle.pm_node.proofs.FillLaws.{kind-inside, same-entry}
use Rattle.pm_node.proofs.FilledLaws.{leaf-is, node-is, some-level, small-content, small-first, small-room, both-start, both-more, both-end, joined-at, joined-end}
use Rattle.pm_node.proofs.filled.+filled.Goals as goal

pub filled_node-returns-then-is_leaf : goal.filled_node-returns-then-is_leaf
filled_node-returns-then-is_leaf t c =
    leaf-is c.args.schema.now.spec c.args.fills.now c.args.levels c.args.kind c.in_ok-attrs.attrs c.empty-marks.result (sym c.is_leaf.ensures ∙ c.if-is_leaf.true) c.in_ok-attrs.ensures c.empty-marks.ensures

pub filled_node-overflow_sub-levels : goal.filled_node-overflow_sub-levels
filled_node-overflow_sub-levels t c =
    let g = some-level c.args.schema.now.spec c.args.fills.now c.args.levels c.args.kind (sym c.is_leaf.ensures ∙ c.if-is_leaf.false) c.requires.small in
    omega (arith, g)

pub filled_node-filled_content-requires : goal.filled_node-filled_content-requires
filled_node-filled_content-requires t c =
    let s = c.args.schema.now in
    let fills = c.args.fills.now in
    let flat : is_leaf (node_at s.spec c.args.kind) ≡ false = sym c.is_leaf.ensures ∙ c.if-is_leaf.false in
    let g = some-level s.spec fills c.args.levels c.args.kind flat c.requires.small in
    let d : 2 * c.args.levels ≡ t = c.decreases in
    let up : c.args.levels ≡ suc (c.args.levels - 1) = omega (arith, g) in
    let falls : 2 * (c.args.levels - 1) + 1 < t = omega (arith, d, g) in
    let made : all_can s.generatable c.fill_at-kinds.result.now ≡ true = rw c.fill_at-kinds.ensures (c.requires.table.made c.args.kind c.requires.known) in
    (falls, (c.requires.table, (made, small-content s.spec fills c.args.levels (c.args.levels - 1) c.args.kind c.fill_at-kinds.result.now flat up c.fill_at-kinds.ensures c.requires.small)))

pub filled_node-returns : goal.filled_node-returns
filled_node-returns t c =
    let s = c.args.schema.now.spec in
    let fills = c.args.fills.now in
    let flat : is_leaf (node_at s c.args.kind) ≡ false = sym c.is_leaf.ensures ∙ c.if-is_leaf.false in
    let g = some-level s fills c.args.levels c.args.kind flat c.requires.small in
    let up : c.args.levels ≡ suc (c.args.levels - 1) = omega (arith, g) in
    node-is s fills c.args.levels (c.args.levels - 1) c.args.kind c.fill_at-kinds.result.now c.in_ok-attrs.attrs c.empty-marks.result c.in_ok-content.content flat up c.fill_at-kinds.ensures c.in_ok-attrs.ensures c.empty-marks.ensures c.in_ok-content.ensures

pub filled_content-loop-kind-init : goal.filled_content-loop-kind-init
filled_content-loop-kind-init t c = both-start (joined (map (filled_tokens c.args.schema.now.spec c.args.fills.now c.args.levels) c.args.kinds.now)) c.new-content.result c.new-content.ensures

pub filled_content-filled_node-requires : goal.filled_content-filled_node-requires
filled_content-filled_node-requires t c =
    let s = c.args.schema.now in
    let f = filled_tokens s.spec c.args.fills.now c.args.levels in
    let ks = c.args.kinds.now in
    let i = c.loop-kind.kind-index in
    let k = get_or ks i 0 in
    let is : k ≡ get_or ks i k = same-entry ks i 0 k c.loop-kind-test.true in
    let d : 2 * c.args.levels + 1 ≡ t = c.decreases in
    let falls : 2 * c.args.levels < t = omega (arith, d) in
    let known = kind-inside s ks i k c.requires.made c.loop-kind-test.true is in
    let whole = c.loop-kind.invariant ∙ ap (both (Some c.loop-kind.content)) (joined-at f ks i k c.loop-kind-test.true is) in
    (falls, (c.requires.table, (known, small-first (f k) (joined (map f (drop (i + 1) ks))) c.loop-kind.content (subst Small whole c.requires.small))))

pub filled_content-push-requires : goal.filled_content-push-requires
filled_content-push-requires t c =
    let f = filled_tokens c.args.schema.now.spec c.args.fills.now c.args.levels in
    let ks = c.args.kinds.now in
    let i = c.loop-kind.kind-index in
    let k = get_or ks i 0 in
    let is : k ≡ get_or ks i k = same-entry ks i 0 k c.loop-kind-test.true in
    let whole = c.loop-kind.invariant ∙ ap (both (Some c.loop-kind.content)) (joined-at f ks i k c.loop-kind-test.true is) in
    let room = small-room (f k) (joined (map f (drop (i + 1) ks))) c.loop-kind.content (node_tokens c.in_ok-node.node) c.in_ok-node.ensures (subst Small whole c.requires.small) in
    omega (arith, room, ap (λ m. length (node_tokens m)) c.in_ok-node-2.ensures.ok)

pub filled_content-loop-kind-preserved : goal.filled_content-loop-kind-preserved
filled_content-loop-kind-preserved t c =
    let f = filled_tokens c.args.schema.now.spec c.args.fills.now c.args.levels in
    let ks = c.args.kinds.now in
    let i = c.loop-kind.kind-index in
    let k = get_or ks i 0 in
    let is : k ≡ get_or ks i k = same-entry ks i 0 k c.loop-kind-test.true in
    let whole = c.loop-kind.invariant ∙ ap (both (Some c.loop-kind.content)) (joined-at f ks i k c.loop-kind-test.true is) in
    let here : f k ≡ Some (node_tokens (arc_value c.in_ok-node-2.node)) = c.in_ok-node.ensures ∙ ap (λ m. Some (node_tokens m)) (sym c.in_ok-node-2.ensures.ok) in
    whole ∙ both-more (f k) (joined (map f (drop (i + 1) ks))) c.loop-kind.content (node_tokens (arc_value c.in_ok-node-2.node)) c.push.new.self here c.in_ok-push.ensures.ok

pub filled_content-returns : goal.filled_content-returns
filled_content-returns t c =
    let f = filled_tokens c.args.schema.now.spec c.args.fills.now c.args.levels in
    c.loop-kind.invariant ∙ both-end c.loop-kind.content _ (joined-end f c.args.kinds.now c.loop-kind.kind-index c.loop-kind-test.false)
