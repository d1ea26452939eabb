use Rattle.std.proofs.Common.{◌≡◌, ◌-◌, ◌<◌, length, arith, ap, ◌∙◌, subst, refl, IfOk}
use Rattle.std.specs.Arc.{arc_value}
use Rattle.pm_tokens.specs.Slices.{cut}
use Rattle.pm_node.specs.declared.node.Node.{Node}
use Rattle.pm_node.specs.Trees.{node_tokens}
use Rattle.pm_node.proofs.WalkLaws.{Child, child-at}
use Rattle.pm_slice.specs.Cuts.{Inside, HoldsNone, Flat}
use Rattle.pm_slice.proofs.CutWalk.{Sought, sought-found, flat-none, flat-end, cut-child, shorter, inside-bound}
use Rattle.pm_slice.proofs.cutting.+cut_content.Goals as goal

pub cut_content-requires : goal.cut_content-requires
cut_content-requires t c =
    let xs = c.children-children.result in
    let e = c.children-children.ensures in
    let i = c.find-found.result.index in
    let start = c.find-found.result.rest in
    let end = c.args.to - (c.args.from - start) in
    let x = c.get.result.now in
    let inner = c.in-Some.inner.now in
    let w : Sought xs i c.args.from c.args.to start end = sought-found xs c.args.from c.args.to i start end e.each c.find-found.ensures c.requires.order refl in
    let lt : i < length xs = omega (arith, c.find-found.ensures.within, c.if-found-len.false, c.len.ensures) in
    let s = subst (λ (n : Node). Inside n start end inner) c.deref.ensures c.in-Some.ensures.inside in
    let less = shorter xs c.args.from c.args.to i start end x inner lt c.get.ensures s in
    let b = inside-bound (arc_value x) start end inner s in
    let d : length c.args.content.now ≡ t = c.decreases in
    let g : length inner < t = omega (arith, d, less, ap length e.tokens) in
    (g, (omega (arith, c.requires.order, w.at_from, w.at_to), b))

pub returns-in-Some : goal.returns-in-Some
returns-in-Some t c =
    let xs = c.children-children.result in
    let e = c.children-children.ensures in
    let i = c.find-found.result.index in
    let start = c.find-found.result.rest in
    let end = c.args.to - (c.args.from - start) in
    let x = c.get.result.now in
    let inner = c.in-Some.inner.now in
    let w : Sought xs i c.args.from c.args.to start end = sought-found xs c.args.from c.args.to i start end e.each c.find-found.ensures c.requires.order refl in
    let lt : i < length xs = omega (arith, c.find-found.ensures.within, c.if-found-len.false, c.len.ensures) in
    let s = subst (λ (n : Node). Inside n start end inner) c.deref.ensures c.in-Some.ensures.inside in
    let same = cut-child xs c.args.from c.args.to i start end x inner w lt c.get.ensures s c.requires.order in
    subst (λ z. IfOk c.cut_content.result (λ s. s ≡ z)) (same ∙ ap (λ z. cut z c.args.from c.args.to) e.tokens) c.cut_content.ensures

pub cut_across-requires-in-None-clause-flat : goal.cut_across-requires-in-None-clause-flat
cut_across-requires-in-None-clause-flat t c =
    let xs = c.children-children.result in
    let e = c.children-children.ensures in
    let i = c.find-found.result.index in
    let start = c.find-found.result.rest in
    let end = c.args.to - (c.args.from - start) in
    let x = c.get.result.now in
    let w : Sought xs i c.args.from c.args.to start end = sought-found xs c.args.from c.args.to i start end e.each c.find-found.ensures c.requires.order refl in
    let lt : i < length xs = omega (arith, c.find-found.ensures.within, c.if-found-len.false, c.len.ensures) in
    let k : Child xs i (arc_value x) = child-at xs i x e.normal e.each lt c.get.ensures in
    let none = subst (λ (n : Node). 0 < start → end < length (node_tokens n) → HoldsNone n) c.deref.ensures (c.in-None.ensures.none refl) in
    let f = flat-none xs c.args.from c.args.to i start end (length (node_tokens (arc_value x))) x w lt c.get.ensures k.whole refl (c.find-found.ensures.inside x lt c.get.ensures) c.requires.order none in
    subst (λ ts. Flat ts c.args.from c.args.to) e.tokens f

pub cut_across-requires-clause-flat : goal.cut_across-requires-clause-flat
cut_across-requires-clause-flat t c =
    let xs = c.children-children.result in
    let e = c.children-children.ensures in
    let i = c.find-found.result.index in
    let start = c.find-found.result.rest in
    let end = c.args.to - (c.args.from - start) in
    let w : Sought xs i c.args.from c.args.to start end = sought-found xs c.args.from c.args.to i start end e.each c.find-found.ensures c.requires.order refl in
    let f = flat-end xs c.args.from c.args.to i start end w (omega (arith, c.if-found-len.true, c.len.ensures)) c.requires.order (omega (arith, c.requires.within, ap length e.tokens)) in
    subst (λ ts. Flat ts c.args.from c.args.to) e.tokens f
