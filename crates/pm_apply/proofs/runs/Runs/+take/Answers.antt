use Rattle.std.proofs.Common.{◌≡◌, ◌+◌, ◌-◌, ◌*◌, ◌<◌, [], ◌∷◌, length, arith, sym, ap, ◌∙◌, subst, refl, length-append}
use Rattle.std.proofs.lemmas.Result.{on_ok_weaker}
use Rattle.pm_tokens.specs.Tokens.{Leaf, Close}
use Rattle.pm_tokens.specs.Scan.{Balanced}
use Rattle.pm_schema.specs.Documents.{documents_of}
use Rattle.pm_node.specs.declared.node.Body.TheVariants.{Text, Children}
use Rattle.pm_node.specs.Trees.{node_tokens}
use Rattle.pm_node.proofs.TreeLaws.{node_tokens_at, length-text_tokens}
use Rattle.pm_node.proofs.WalkLaws.{child-within}
use Rattle.pm_apply.specs.declared.marking.Reach.TheVariants.{Inline}
use Rattle.pm_apply.specs.Markings.{AreKnown}
use Rattle.pm_apply.proofs.BetweenLaws.{front-all}
use Rattle.pm_apply.proofs.KnownLaws.{known-child, known-inner}
use Rattle.pm_apply.proofs.MarkedNodes.{sort-is, and-yes}
use Rattle.pm_apply.proofs.TakenWalk.{Taken, taken-from, taken-order, taken-more, taken-room, taken-left, taken-end, took-none, took-past, took-leaf, took-node, took-text, on-both}
use Rattle.pm_apply.proofs.runs.Runs.+take.Goals as goal

pub take_content-loop-i-init : goal.take_content-loop-i-init
take_content-loop-i-init t c =
    taken-from (documents_of c.args.walk.now.schema.now.spec) c.args.walk.now.marking.now c.args.walk.now.parent c.children-children.result c.args.at c.args.from c.args.to c.args.self.now c.requires.order _ _ _ _
    c.children-children.ensures.each c.children_in-touched.ensures.counted c.children_in-touched.ensures.starts refl (c.in_ok-pass.ensures (documents_of c.args.walk.now.schema.now.spec))

pub take_content-take_child-requires : goal.take_content-take_child-requires
take_content-take_child-requires t c =
    let l : c.loop-i.i < length c.children-children.result = omega (arith, c.loop-i-test.true, c.children_in-touched.ensures.within) in
    let s = documents_of c.args.walk.now.schema.now.spec in
    let xs = c.children-children.result in
    let all = c.children-children.ensures.tokens in
    let count = length c.args.walk.now.schema.now.spec.nodes in
    let d : 2 * length c.args.content.now + 1 ≡ t = c.decreases in
    let w = child-within xs _ c.get-child.result.now l c.get-child.ensures in
    let n = ap (λ m. length (node_tokens m)) c.deref-in-loop-i.ensures in
    let g : 2 * length (node_tokens c.deref-in-loop-i.result.now) < t = omega (arith, d, w, n, ap length all) in
    let room = taken-room s c.args.walk.now.marking.now c.args.walk.now.parent xs c.args.at c.args.from c.args.to c.args.self.now c.requires.order _ _ _ _ c.get-child.result.now c.loop-i.self c.loop-i.invariant l c.get-child.ensures in (
      g,
      (
        taken-order s c.args.walk.now.marking.now c.args.walk.now.parent xs c.args.at c.args.from c.args.to c.args.self.now c.requires.order _ _ _ _ c.loop-i.self c.loop-i.invariant,
        (
          c.requires.parent,
          (
            subst (λ m. AreKnown count (node_tokens m)) (sym c.deref-in-loop-i.ensures)
                (known-child count xs _ c.get-child.result.now l c.get-child.ensures (subst (AreKnown count) (sym all) c.requires.known)),
            omega (arith, room, n, c.requires.room, ap length all),
          ),
        ),
      ),
    )

pub take_content-overflow_add-place-in-loop-i : goal.take_content-overflow_add-place-in-loop-i
take_content-overflow_add-place-in-loop-i t c =
    let l : c.loop-i.i < length c.children-children.result = omega (arith, c.loop-i-test.true, c.children_in-touched.ensures.within) in
    let s = documents_of c.args.walk.now.schema.now.spec in
    let xs = c.children-children.result in
    let all = c.children-children.ensures.tokens in
    let room = taken-room s c.args.walk.now.marking.now c.args.walk.now.parent xs c.args.at c.args.from c.args.to c.args.self.now c.requires.order _ _ _ _ c.get-child.result.now c.loop-i.self c.loop-i.invariant l c.get-child.ensures in
    omega (arith, room, c.size-size.ensures.size, ap (λ m. length (node_tokens m)) c.deref.ensures, c.requires.room, ap length all)

pub take_content-loop-i-preserved : goal.take_content-loop-i-preserved
take_content-loop-i-preserved t c =
    let l : c.loop-i.i < length c.children-children.result = omega (arith, c.loop-i-test.true, c.children_in-touched.ensures.within) in
    let d = c.deref.ensures in
    taken-more (documents_of c.args.walk.now.schema.now.spec) c.args.walk.now.marking.now c.args.walk.now.parent c.children-children.result c.args.at c.args.from c.args.to c.args.self.now c.requires.order
    _ _ _ _ c.size-size.result _ _ _ c.deref-in-loop-i.result.now c.get-child.result.now c.loop-i.self c.take_child.new.self c.loop-i.invariant l c.get-child.ensures c.deref-in-loop-i.ensures
    (subst (λ n. Balanced (node_tokens n)) d c.size-size.ensures.whole) (c.size-size.ensures.size ∙ ap (λ n. length (node_tokens n)) d)
    c.in_ok-take_child.ensures refl c.saturating_sub-start.ensures c.saturating_sub-end.ensures

pub take_content-overflow_add-place : goal.take_content-overflow_add-place
take_content-overflow_add-place t c =
    omega (arith, c.children_in-touched.ensures.counted, front-all c.children-children.result c.children_in-touched.result.first, c.requires.room, ap length c.children-children.ensures.tokens)

pub take_content-overflow_sub-past : goal.take_content-overflow_sub-past
take_content-overflow_sub-past t c =
    let s = documents_of c.args.walk.now.schema.now.spec in
    let left = taken-left s c.args.walk.now.marking.now c.args.walk.now.parent c.children-children.result c.args.at c.args.from c.args.to c.args.self.now c.requires.order _ _ _ _ c.loop-i.self c.loop-i.invariant in
    omega (arith, left, c.size-2.ensures)

pub take_content-returns : goal.take_content-returns
take_content-returns t c =
    let s = documents_of c.args.walk.now.schema.now.spec in
    let xs = c.children-children.result in
    let b = c.children_in-touched.ensures in
    let g : c.loop-i.i ≡ c.children_in-touched.result.end = omega (arith, c.loop-i-test.false, b.order) in
    let w = subst (λ k. Taken s c.args.walk.now.marking.now c.args.walk.now.parent xs k c.args.at c.args.from c.args.to c.loop-i.place c.loop-i.start c.loop-i.end c.args.self.now c.loop-i.self) g c.loop-i.invariant in
    on_ok_weaker c.pass-2.result
    (λ k. taken-end s c.args.walk.now.marking.now c.args.walk.now.parent xs c.args.at c.args.from c.args.to c.args.self.now c.requires.order
    _ _ _ _ _ c.loop-i.self c.pass-2.new.self c.args.content.now w b.stops (ap (λ n. (c.args.at + n) - c.loop-i.place) c.size-2.ensures) (k s) c.children-children.ensures.tokens)
    c.pass-2.ensures

pub take_child-returns-then-to-from : goal.take_child-returns-then-to-from
take_child-returns-then-to-from t c =
    let s = documents_of c.args.walk.now.schema.now.spec in
    let ts = node_tokens c.args.node.now in
    on_ok_weaker c.pass.result
    (λ e. took-none s c.args.walk.now.marking.now c.args.walk.now.parent c.args.at c.args.from c.args.to c.requires.order ts c.args.self.now c.pass.new.self c.if-to-from.true (e s ts (sym c.size-size.ensures.size)))
    c.pass.ensures

pub take_child-returns-then-size-from : goal.take_child-returns-then-size-from
take_child-returns-then-size-from t c =
    let s = documents_of c.args.walk.now.schema.now.spec in
    let ts = node_tokens c.args.node.now in
    on_ok_weaker c.pass-then-size-from.result
    (λ e. took-past s c.args.walk.now.marking.now c.args.walk.now.parent c.args.at c.args.from c.args.to c.requires.order ts c.args.self.now c.pass-then-size-from.new.self
    (omega (arith, c.if-size-from.true, c.size-size.ensures.size)) (e s ts (sym c.size-size.ensures.size)))
    c.pass-then-size-from.ensures

pub take_child-take_content-requires : goal.take_child-take_content-requires
take_child-take_content-requires t c =
    let n = c.args.node.now in
    let inner = c.in-Children.inner in
    let count = length c.args.walk.now.schema.now.spec.nodes in
    let d : 2 * length (node_tokens n) ≡ t = c.decreases in
    let size : length (node_tokens n) ≡ length inner + 2 = omega (arith, ap length (node_tokens_at n (Children inner) c.in-Children.is), length-append inner (Close ∷ [])) in
    let known = known-inner count n inner c.in-Children.is c.requires.known in
    let g : 2 * length inner + 1 < t = omega (arith, d, size) in
    (g, (omega (arith, c.saturating_sub-start.ensures, c.if-to-from.false), (known.0, (known.1, omega (arith, size, c.requires.room)))))

pub take_child-overflow_add-at-in-Text : goal.take_child-overflow_add-at-in-Text
take_child-overflow_add-at-in-Text t c =
    let n = c.args.node.now in
    omega (arith, c.requires.room, c.min-end.ensures, c.len-len.ensures, ap length (node_tokens_at n (Text c.in-Text.units) c.in-Text.is), length-text_tokens n.marks c.in-Text.units)

pub take_child-returns-in_ok-token-in-Text : goal.take_child-returns-in_ok-token-in-Text
take_child-returns-in_ok-token-in-Text t c =
    let s = documents_of c.args.walk.now.schema.now.spec in
    on_ok_weaker c.pass-in-Text-2.result
    (λ e. took-text s c.args.walk.now.marking.now c.args.walk.now.parent c.args.at c.args.from c.args.to c.requires.order c.args.node.now c.in-Text.units c.in_ok-new-in-Text.new c.len-len.result c.min-end.result
    c.args.self.now c.pass-in-Text.new.self c.token.new.self c.pass-in-Text-2.new.self
    c.in-Text.is c.if-to-from.false (omega (arith, c.if-size-from.false, c.size-size.ensures.size)) c.len-len.ensures c.min-end.ensures (sym c.in_ok-new-in-Text.ensures)
    (c.in_ok-pass-in-Text.ensures s) c.in_ok-token-in-Text.ensures.steps c.in_ok-token-in-Text.ensures.run (e s))
    c.pass-in-Text-2.ensures

pub take_child-returns-in_ok-new-in-Leaf : goal.take_child-returns-in_ok-new-in-Leaf
take_child-returns-in_ok-new-in-Leaf t c =
    let s = documents_of c.args.walk.now.schema.now.spec in
    let n = c.args.node.now in
    let leaf = c.of-sort.ensures.takes ∙ and-yes (s.is_inline n.kind) (s.is_atom n.kind) in
    let sort = sort-is s c.args.walk.now.marking.now Inline c.of-sort.result c.args.walk.now.parent (Leaf n.kind n.attrs n.marks) n.marks leaf c.of-sort.ensures.inline c.of-sort.ensures.node in
    on-both c.token-in-Leaf.result
    (λ x y. took-leaf s c.args.walk.now.marking.now c.args.walk.now.parent c.args.at c.args.from c.args.to c.requires.order n c.in_ok-new-in-Leaf.new c.of-sort.result.takes c.args.self.now c.token-in-Leaf.new.self
    c.in-Leaf.is c.if-to-from.false (omega (arith, c.if-size-from.false, c.size-size.ensures.size)) (sym (c.in_ok-new-in-Leaf.ensures ∙ sort)) leaf x y)
    c.token-in-Leaf.ensures.steps c.token-in-Leaf.ensures.run

pub take_child-returns-in_ok-take_content-in-Children : goal.take_child-returns-in_ok-take_content-in-Children
take_child-returns-in_ok-take_content-in-Children t c =
    let s = documents_of c.args.walk.now.schema.now.spec in
    let n = c.args.node.now in
    let inner = c.in-Children.inner in
    on_ok_weaker c.pass-in-Children.result
    (λ e. took-node s c.args.walk.now.marking.now c.args.walk.now.parent c.args.at c.args.from c.args.to c.requires.order n inner c.saturating_sub-start.result (c.args.to - 1) (c.args.at + 1 + c.size.result)
    c.args.self.now c.take_open.new.self c.take_content.new.self c.pass-in-Children.new.self
    c.in-Children.is c.size.ensures.whole c.if-to-from.false c.in_ok-take_open-in-Children.ensures c.saturating_sub-start.ensures refl c.in_ok-take_content-in-Children.ensures
    (ap (λ z. c.args.at + 1 + z) c.size.ensures.size) (e s (Close ∷ []) refl))
    c.pass-in-Children.ensures
