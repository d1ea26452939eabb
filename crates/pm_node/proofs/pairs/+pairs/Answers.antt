use Rattle.std.proofs.Common.{◌≡◌, ◌+◌, ◌*◌, ◌<◌, length, arith, ap, sym, ◌∙◌, refl, subst}
use Rattle.std.specs.Prelude.{None, option_map}
use Rattle.pm_tokens.specs.Faults.{Pair, first_broken}
use Rattle.pm_node.specs.Trees.{node_tokens}
use Rattle.pm_node.proofs.WalkLaws.{Child, child-within, child-at, in-range}
use Rattle.pm_node.proofs.PairWalk.{Walked, walked-more, walked-broken, walked-room, broken-content, broken-lone, broken-none, lone-room}
use Rattle.pm_node.proofs.pairs.+pairs.Goals as goal

pub broken_in-overflow_add-result : goal.broken_in-overflow_add-result
broken_in-overflow_add-result t c = omega (arith, lone-room c.args.at c.args.node.now c.in-Text.units c.in-Some.i c.in-Text.is c.in-Some.ensures.found c.requires)

pub broken_in-returns-in-Some : goal.broken_in-returns-in-Some
broken_in-returns-in-Some t c = sym (broken-lone c.args.at c.args.node.now c.in-Text.units c.in-Some.i c.in-Text.is c.in-Some.ensures.found)

pub broken_in-returns-in-None : goal.broken_in-returns-in-None
broken_in-returns-in-None t c = sym (broken-none c.args.at c.args.node.now c.in-Text.units c.in-Text.is (c.in-None.ensures.none refl))

pub broken_in-returns-in-Children : goal.broken_in-returns-in-Children
broken_in-returns-in-Children t c = c.first_broken.ensures ∙ sym (broken-content c.args.at c.args.node.now c.in-Children.content c.in-Children.is)

pub first_broken-broken_in-requires : goal.first_broken-broken_in-requires
first_broken-broken_in-requires t c =
    let xs = c.children-children.result in
    let e = c.children-children.ensures in
    let d : 2 * length c.args.content.now + 1 ≡ t = c.decreases in
    let w = child-within xs _ c.get-child.result.now (in-range c.len-i-end.ensures c.loop-i-test.true) c.get-child.ensures in
    let room = walked-room xs _ _ (child-at xs c.loop-i.i c.get-child.result.now e.normal e.each (in-range c.len-i-end.ensures c.loop-i-test.true) c.get-child.ensures) c.args.at c.loop-i.at c.loop-i.invariant in
    let g : 2 * length (node_tokens c.deref-in-loop-i.result.now) < t = omega (arith, d, w, ap (λ m. length (node_tokens m)) c.deref-in-loop-i.ensures, ap length e.tokens) in
    (g, omega (arith, room, c.requires, ap (λ m. length (node_tokens m)) c.deref-in-loop-i.ensures, ap length e.tokens))

pub first_broken-returns-in-Some : goal.first_broken-returns-in-Some
first_broken-returns-in-Some t c =
    let xs = c.children-children.result in
    let e = c.children-children.ensures in
    let i = c.loop-i.i in
    let n = c.deref-in-loop-i.result.now in
    let k : Child xs i n = subst (Child xs i) (sym c.deref-in-loop-i.ensures) (child-at xs i c.get-child.result.now e.normal e.each (in-range c.len-i-end.ensures c.loop-i-test.true) c.get-child.ensures) in
    sym (ap (first_broken c.args.at None) (sym e.tokens) ∙ walked-broken xs i n k c.args.at c.loop-i.at (Pair c.in-Some.place) c.loop-i.invariant (sym c.in-Some.ensures))

pub first_broken-loop-i-preserved : goal.first_broken-loop-i-preserved
first_broken-loop-i-preserved t c =
    let xs = c.children-children.result in
    let e = c.children-children.ensures in
    let i = c.loop-i.i in
    let n = c.deref-in-loop-i.result.now in
    let k : Child xs i n = subst (Child xs i) (sym c.deref-in-loop-i.ensures) (child-at xs i c.get-child.result.now e.normal e.each (in-range c.len-i-end.ensures c.loop-i-test.true) c.get-child.ensures) in
    let size : length (node_tokens n) ≡ c.size-size.result = ap (λ m. length (node_tokens m)) (c.deref-in-loop-i.ensures ∙ sym c.deref.ensures) ∙ sym c.size-size.ensures.size in
    subst (λ s. Walked xs (i + 1) c.args.at (c.loop-i.at + s)) size (walked-more xs i n k c.args.at c.loop-i.at c.loop-i.invariant (sym c.broken_in.ensures ∙ ap (option_map Pair) c.in_default.is))
