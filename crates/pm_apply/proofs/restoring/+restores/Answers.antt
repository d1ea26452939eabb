use Rattle.std.specs.Prelude.{Bool, List}
use Rattle.std.proofs.lemmas.Bool.{cases_lt}
use Rattle.pm_marks.proofs.Laws.{if_ok-then}
use Rattle.std.proofs.Common.{◌≡◌, ℕ, ◌+◌, ◌-◌, ◌*◌, ◌<◌, [], ◌∷◌, length, arith, sym, ap, ◌∙◌, subst, refl, inl, inr, length-append}
use Rattle.pm_tokens.specs.Tokens.{Leaf, Close, CodeUnit}
use Rattle.pm_tokens.specs.Scan.{Balanced}
use Rattle.pm_attrs.specs.Attrs.{same_attrs}
use Rattle.pm_marks.specs.Sets.{same_marks}
use Rattle.pm_schema.specs.Documents.{documents_of}
use Rattle.pm_node.specs.declared.node.Body.TheVariants.{Children}
use Rattle.pm_node.specs.Trees.{node_tokens}
use Rattle.pm_node.proofs.TreeLaws.{node_tokens_at}
use Rattle.pm_node.proofs.WalkLaws.{child-within}
use Rattle.pm_apply.specs.declared.marking.Reach.TheVariants.{Inline}
use Rattle.pm_apply.specs.Markings.{AreKnown, sort_marks}
use Rattle.pm_apply.specs.Backs.{twice}
use Rattle.pm_apply.proofs.KnownLaws.{known-child, known-inner}
use Rattle.pm_apply.proofs.MarkedNodes.{and-yes}
use Rattle.pm_apply.proofs.RestoredWalk.{are_back, Restored, restored-from, restored-order, restored-more, restored-lost, restored-end, back-none, back-past, back-text, back-leaf, back-lost, back-inner, sort-twice}
use Rattle.pm_apply.proofs.restoring.+restores.Goals as goal

pub restores-loop-i-init : goal.restores-loop-i-init
restores-loop-i-init t c =
    restored-from (documents_of c.args.walk.now.schema.now.spec) c.args.walk.now.marking.now c.args.back.now c.args.walk.now.parent c.children-children.result c.args.from c.args.to c.requires.order _ _
    c.children-children.ensures.each c.children_in-touched.ensures.counted c.children_in-touched.ensures.starts

pub restores-restores_in-requires : goal.restores-restores_in-requires
restores-restores_in-requires t c =
    let l : c.loop-i.i < length c.children-children.result = omega (arith, c.loop-i-test.true, c.children_in-touched.ensures.within) in
    let s = documents_of c.args.walk.now.schema.now.spec in
    let xs = c.children-children.result in
    let all = c.children-children.ensures.tokens in
    let count = length c.args.walk.now.schema.now.spec.nodes in
    let d : 2 * length c.args.content.now + 1 ≡ t = c.decreases in
    let w = child-within xs _ c.get-child.result.now l c.get-child.ensures in
    let n = ap (λ m. length (node_tokens m)) c.deref-in-loop-i.ensures in
    let g : 2 * length (node_tokens c.deref-in-loop-i.result.now) < t = omega (arith, d, w, n, ap length all) in (
      g,
      (
        restored-order s c.args.walk.now.marking.now c.args.back.now c.args.walk.now.parent xs c.args.from c.args.to c.requires.order _ _ _ c.loop-i.invariant,
        (
          c.requires.parent,
          subst (λ m. AreKnown count (node_tokens m)) (sym c.deref-in-loop-i.ensures)
              (known-child count xs _ c.get-child.result.now l c.get-child.ensures (subst (AreKnown count) (sym all) c.requires.known)),
        ),
      ),
    )

pub restores-loop-i-preserved : goal.restores-loop-i-preserved
restores-loop-i-preserved t c =
    let l : c.loop-i.i < length c.children-children.result = omega (arith, c.loop-i-test.true, c.children_in-touched.ensures.within) in
    let d = c.deref.ensures in
    restored-more (documents_of c.args.walk.now.schema.now.spec) c.args.walk.now.marking.now c.args.back.now c.args.walk.now.parent c.children-children.result c.args.from c.args.to c.requires.order
    _ _ _ c.size-size.result _ _ c.deref-in-loop-i.result.now c.get-child.result.now c.in_ok-kept.kept c.loop-i.invariant l c.get-child.ensures c.deref-in-loop-i.ensures
    (subst (λ n. Balanced (node_tokens n)) d c.size-size.ensures.whole) (c.size-size.ensures.size ∙ ap (λ n. length (node_tokens n)) d)
    c.in_ok-kept.ensures c.if-not-kept.false c.saturating_sub-start.ensures c.saturating_sub-end.ensures

pub restores-returns-then-not-kept : goal.restores-returns-then-not-kept
restores-returns-then-not-kept t c =
    let l : c.loop-i.i < length c.children-children.result = omega (arith, c.loop-i-test.true, c.children_in-touched.ensures.within) in
    restored-lost (documents_of c.args.walk.now.schema.now.spec) c.args.walk.now.marking.now c.args.back.now c.args.walk.now.parent c.children-children.result c.args.from c.args.to c.requires.order
    c.args.content.now c.children-children.ensures.tokens
    _ _ _ c.deref-in-loop-i.result.now c.get-child.result.now c.in_ok-kept.kept c.loop-i.invariant l c.get-child.ensures c.deref-in-loop-i.ensures
    (subst (λ n. Balanced (node_tokens n)) c.deref.ensures c.size-size.ensures.whole)
    c.in_ok-kept.ensures c.if-not-kept.true

pub restores-returns : goal.restores-returns
restores-returns t c =
    let s = documents_of c.args.walk.now.schema.now.spec in
    let xs = c.children-children.result in
    let b = c.children_in-touched.ensures in
    let g : c.loop-i.i ≡ c.children_in-touched.result.end = omega (arith, c.loop-i-test.false, b.order) in
    restored-end s c.args.walk.now.marking.now c.args.back.now c.args.walk.now.parent xs c.args.from c.args.to c.requires.order c.args.content.now c.children-children.ensures.tokens _ _ _
    (subst (λ k. Restored s c.args.walk.now.marking.now c.args.back.now c.args.walk.now.parent xs k c.args.from c.args.to c.loop-i.start c.loop-i.end) g c.loop-i.invariant) b.stops

pub restores_in-returns-then-to-from : goal.restores_in-returns-then-to-from
restores_in-returns-then-to-from t c =
    back-none (documents_of c.args.walk.now.schema.now.spec) c.args.walk.now.marking.now c.args.back.now c.args.walk.now.parent c.args.from c.args.to c.requires.order (node_tokens c.args.node.now) c.if-to-from.true

pub restores_in-returns-then-size-from : goal.restores_in-returns-then-size-from
restores_in-returns-then-size-from t c =
    back-past (documents_of c.args.walk.now.schema.now.spec) c.args.walk.now.marking.now c.args.back.now c.args.walk.now.parent c.args.from c.args.to c.requires.order (node_tokens c.args.node.now)
    (omega (arith, c.if-size-from.true, c.size-size.ensures.size))

pub restores_in-returns-in-Text : goal.restores_in-returns-in-Text
restores_in-returns-in-Text t c =
    let s = documents_of c.args.walk.now.schema.now.spec in
    let n = c.args.node.now in
    let m = c.args.walk.now.marking.now in
    let b = c.args.back.now in
    if_ok-then (λ (k : Bool). k ≡ same_marks same_attrs (twice s m b c.args.walk.now.parent (CodeUnit 0 n.marks) n.marks) n.marks)
    (λ (k : Bool). (ps : List ℕ) → k ≡ are_back s m b (c.args.walk.now.parent ∷ ps) c.args.from c.args.to (node_tokens n)) c.restores_marks.result
    (λ k e. back-text (documents_of c.args.walk.now.schema.now.spec) c.args.walk.now.marking.now c.args.back.now c.args.walk.now.parent c.args.from c.args.to c.requires.order c.args.node.now c.in-Text.field-0 k
    c.in-Text.is (omega (arith, c.if-to-from.false)) (omega (arith, c.if-size-from.false, c.size-size.ensures.size)) e)
    c.restores_marks.ensures

pub restores_in-returns-in-Leaf : goal.restores_in-returns-in-Leaf
restores_in-returns-in-Leaf t c =
    let s = documents_of c.args.walk.now.schema.now.spec in
    let n = c.args.node.now in
    let m = c.args.walk.now.marking.now in
    let b = c.args.back.now in
    let both = sort-twice s c.args.walk.now.marking.now c.args.back.now c.args.walk.now.parent c.of-sort.result (Leaf n.kind n.attrs n.marks) n.marks
    (c.of-sort.ensures.takes ∙ and-yes (s.is_inline n.kind) (s.is_atom n.kind)) c.of-sort.ensures.inline c.of-sort.ensures.node in
    if_ok-then (λ (k : Bool). k ≡ same_marks same_attrs (sort_marks s b Inline c.of-sort.result c.args.walk.now.parent (sort_marks s m Inline c.of-sort.result c.args.walk.now.parent n.marks)) n.marks)
    (λ (k : Bool). (ps : List ℕ) → k ≡ are_back s m b (c.args.walk.now.parent ∷ ps) c.args.from c.args.to (node_tokens n)) c.restores_marks-in-Leaf.result
    (λ k e. back-leaf s c.args.walk.now.marking.now c.args.back.now c.args.walk.now.parent c.args.from c.args.to c.requires.order n k
    c.in-Leaf.is (omega (arith, c.if-to-from.false)) (omega (arith, c.if-size-from.false, c.size-size.ensures.size))
    (e ∙ ap (λ z. same_marks same_attrs z n.marks) both))
    c.restores_marks-in-Leaf.ensures

pub restores_in-returns-then-not-kept : goal.restores_in-returns-then-not-kept
restores_in-returns-then-not-kept t c =
    let z : c.args.from ≡ 0 = elim (cases_lt 0 c.args.from) [
      | inl p ↦ (let k = c.in_ok-kept-in-Children.ensures.inside p in absurd (cc))
      | inr p ↦ omega (arith, p)
    ] in
    back-lost (documents_of c.args.walk.now.schema.now.spec) c.args.walk.now.marking.now c.args.back.now c.args.walk.now.parent c.args.from c.args.to c.requires.order c.args.node.now c.in-Children.inner
    c.in-Children.is c.size.ensures.whole (omega (arith, c.if-to-from.false)) z (sym (c.in_ok-kept-in-Children.ensures.start z) ∙ c.if-not-kept.true)

pub restores_in-restores-requires : goal.restores_in-restores-requires
restores_in-restores-requires t c =
    let n = c.args.node.now in
    let inner = c.in-Children.inner in
    let count = length c.args.walk.now.schema.now.spec.nodes in
    let d : 2 * length (node_tokens n) ≡ t = c.decreases in
    let size : length (node_tokens n) ≡ length inner + 2 = omega (arith, ap length (node_tokens_at n (Children inner) c.in-Children.is), length-append inner (Close ∷ [])) in
    let known = known-inner count n inner c.in-Children.is c.requires.known in
    let g : 2 * length inner + 1 < t = omega (arith, d, size) in
    (g, (omega (arith, c.saturating_sub-start.ensures, c.if-to-from.false), (known.0, known.1)))

pub restores_in-returns-else-not-kept : goal.restores_in-returns-else-not-kept
restores_in-returns-else-not-kept t c =
    let s = documents_of c.args.walk.now.schema.now.spec in
    let n = c.args.node.now in
    let m = c.args.walk.now.marking.now in
    let b = c.args.back.now in
    let inner = c.in-Children.inner in
    if_ok-then (λ (k : Bool). (qs : List ℕ) → k ≡ are_back s m b (n.kind ∷ qs) c.saturating_sub-start.result (c.args.to - 1) inner)
    (λ (k : Bool). (ps : List ℕ) → k ≡ are_back s m b (c.args.walk.now.parent ∷ ps) c.args.from c.args.to (node_tokens n)) c.restores.result
    (λ k e. back-inner (documents_of c.args.walk.now.schema.now.spec) c.args.walk.now.marking.now c.args.back.now c.args.walk.now.parent c.args.from c.args.to c.requires.order c.args.node.now c.in-Children.inner
    c.in-Children.is c.size.ensures.whole (omega (arith, c.if-to-from.false)) k c.saturating_sub-start.result _
    (λ z. sym (c.in_ok-kept-in-Children.ensures.start z) ∙ c.if-not-kept.false) c.saturating_sub-start.ensures refl e)
    c.restores.ensures
