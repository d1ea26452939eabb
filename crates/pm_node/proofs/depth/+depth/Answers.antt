use Rattle.std.proofs.Common.{◌≡◌, ◌+◌, ◌*◌, ◌<◌, ◌≤◌, length, arith, ap, sym, true, false, max, refl, subst}
use Rattle.pm_tokens.specs.Scan.{deepest}
use Rattle.pm_node.specs.Trees.{node_tokens}
use Rattle.pm_node.proofs.WalkLaws.{rest, Child, child-within, child-at, in-range}
use Rattle.pm_node.proofs.DeepLaws.{deep-child, deep-content, deep-flat}
use borrow.Author.Tests.{ltb-true}
use Rattle.pm_node.proofs.depth.+depth.Goals as goal

pub nests_within-node_nests_within-requires : goal.nests_within-node_nests_within-requires
nests_within-node_nests_within-requires t c =
    let d : 2 * length c.args.content.now + 1 ≡ t = c.decreases in
    let w = child-within c.children-children.result _ c.get-child.result.now (in-range c.len-i-end.ensures c.loop-i-test.true) c.get-child.ensures in
    let g : 2 * length (node_tokens c.deref.result.now) < t = omega (arith, d, w, ap (λ m. length (node_tokens m)) c.deref.ensures, ap length c.children-children.ensures.tokens) in
    (g, tt)

pub nests_within-returns-then-not-node_nests_within : goal.nests_within-returns-then-not-node_nests_within
nests_within-returns-then-not-node_nests_within t c =
    let xs = c.children-children.result in
    let e = c.children-children.ensures in
    let i = c.loop-i.i in
    let k : Child xs i c.deref.result.now = subst (Child xs i) (sym c.deref.ensures) (child-at xs i c.get-child.result.now e.normal e.each (in-range c.len-i-end.ensures c.loop-i-test.true) c.get-child.ensures) in
    let deep : deepest 0 (rest xs i) ≡ max (deepest 0 (node_tokens c.deref.result.now)) (deepest 0 (rest xs (i + 1))) = deep-child xs i c.deref.result.now k in
    let so_far = c.loop-i.invariant in
    let here = c.node_nests_within.ensures in
    let no : c.node_nests_within.result ≡ false = c.if-not-node_nests_within.true in
    (λ f. absurd (cc), λ h. let yes : c.node_nests_within.result ≡ true = here.1 (omega (arith, so_far.0 h, deep)) in absurd (cc))

pub nests_within-loop-i-preserved : goal.nests_within-loop-i-preserved
nests_within-loop-i-preserved t c =
    let xs = c.children-children.result in
    let e = c.children-children.ensures in
    let i = c.loop-i.i in
    let k : Child xs i c.deref.result.now = subst (Child xs i) (sym c.deref.ensures) (child-at xs i c.get-child.result.now e.normal e.each (in-range c.len-i-end.ensures c.loop-i-test.true) c.get-child.ensures) in
    let deep : deepest 0 (rest xs i) ≡ max (deepest 0 (node_tokens c.deref.result.now)) (deepest 0 (rest xs (i + 1))) = deep-child xs i c.deref.result.now k in
    let so_far = c.loop-i.invariant in
    let here = c.node_nests_within.ensures in
    let within : deepest 0 (node_tokens c.deref.result.now) ≤ c.args.levels = here.0 c.if-not-node_nests_within.false in
    (λ h. omega (arith, so_far.0 h, deep), λ h. so_far.1 (omega (arith, h, deep, within)))

pub node_nests_within-returns-then-levels-gt0 : goal.node_nests_within-returns-then-levels-gt0
node_nests_within-returns-then-levels-gt0 t c =
    let deep = deep-content c.args.node.now c.in-Children.content c.in-Children.is c.size.ensures.whole in
    let up = c.nests_within.ensures in
    let some = c.if-levels-gt0.true in
    (λ r. omega (arith, deep, up.0 r, some), λ h. up.1 (omega (arith, deep, h, some)))

pub node_nests_within-returns-else-levels-gt0 : goal.node_nests_within-returns-else-levels-gt0
node_nests_within-returns-else-levels-gt0 t c =
    let deep = deep-content c.args.node.now c.in-Children.content c.in-Children.is c.size.ensures.whole in
    let none : c.args.levels ≤ 0 = c.if-levels-gt0.false in
    (λ r. let some : 0 < c.args.levels = ltb-true _ _ r in absurd (omega arith), λ h. absurd (omega (arith, h, deep)))

pub node_nests_within-returns-in_default : goal.node_nests_within-returns-in_default
node_nests_within-returns-in_default t c =
    let deep = deep-flat c.args.node.now c.in_default.not-Children in
    (λ r. omega (arith, deep), λ h. refl)
