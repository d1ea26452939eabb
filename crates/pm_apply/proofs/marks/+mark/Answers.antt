use Rattle.std.proofs.Common.{◌≡◌, ◌+◌, ◌*◌, ◌<◌, ◌++◌, [], ◌∷◌, length, arith, sym, ap, ◌∙◌, subst, refl, length-append}
use Rattle.std.specs.Arc.{arc_value}
use Rattle.std.proofs.lemmas.Result.{on_ok_weaker}
use Rattle.pm_tokens.specs.Tokens.{Close, Leaf}
use Rattle.pm_tokens.specs.Scan.{Balanced}
use Rattle.pm_schema.specs.Documents.{documents_of}
use Rattle.pm_node.specs.declared.node.Body.TheVariants.{Text, Children}
use Rattle.pm_node.specs.Trees.{node_tokens}
use Rattle.pm_node.proofs.TreeLaws.{node_tokens_at, length-text_tokens}
use Rattle.pm_node.proofs.WalkLaws.{front, rest, child-within}
use Rattle.pm_apply.specs.Markings.{AreKnown, marked_in, new_marks}
use Rattle.pm_apply.proofs.BetweenLaws.{front-is, rest-is, front-rest, front-all}
use Rattle.pm_apply.proofs.KnownLaws.{known-child, known-inner}
use Rattle.pm_apply.proofs.MarkedWalk.{Marked, marked-from, marked-more, marked-end, marked-size, marked-room, marked-order}
use Rattle.pm_apply.proofs.MarkedNodes.{sort-is, and-yes, marked-none, marked-text, marked-leaf, marked-open, marked-length}
use Rattle.pm_apply.proofs.marks.+mark.Goals as goal

pub mark_content-append-requires-clause-room : goal.mark_content-append-requires-clause-room
mark_content-append-requires-clause-room t c =
    let xs = c.children-children.result in
    let i = c.children_in-touched.result.first in
    omega (arith, ap length c.new-made.ensures, ap length (front-is xs i), front-all xs i, c.children-children.ensures.bound)

pub mark_content-loop-i-init : goal.mark_content-loop-i-init
mark_content-loop-i-init t c =
    let f = new_marks (documents_of c.args.walk.now.schema.now.spec) c.args.walk.now.marking.now c.args.reach in
    let b = c.children_in-touched.ensures in
    marked-from f c.args.walk.now.parent c.children-children.result c.args.from c.args.to c.requires.order _ _ _ _ c.children-children.ensures.each b.counted b.starts c.new-made.ensures c.in_ok-append.ensures

pub mark_content-mark_child-requires : goal.mark_content-mark_child-requires
mark_content-mark_child-requires t c =
    let f = new_marks (documents_of c.args.walk.now.schema.now.spec) c.args.walk.now.marking.now c.args.reach in
    let xs = c.children-children.result in
    let all = c.children-children.ensures.tokens in
    let l : c.loop-i.i < length xs = omega (arith, c.loop-i-test.true, c.children_in-touched.ensures.within) in
    let d : 3 * length c.args.content.now + 2 ≡ t = c.decreases in
    let w = child-within xs _ c.get-child.result.now l c.get-child.ensures in
    let g : 3 * length (node_tokens (arc_value c.get-child.result.now)) + 1 < t = omega (arith, d, w, ap length all) in
    let room = marked-room f c.args.walk.now.parent xs c.args.from c.args.to c.requires.order _ _ _ c.get-child.result.now _ c.loop-i.invariant l c.get-child.ensures in (
      g,
      (
        marked-order f c.args.walk.now.parent xs c.args.from c.args.to c.requires.order _ _ _ _ c.loop-i.invariant,
        (
          c.requires.parent,
          (
            known-child (length c.args.walk.now.schema.now.spec.nodes) xs _ c.get-child.result.now l c.get-child.ensures (subst (AreKnown (length c.args.walk.now.schema.now.spec.nodes)) (sym all) c.requires.known),
            omega (arith, room, c.size.ensures.size, c.size.ensures.bound, ap length all),
          ),
        ),
      ),
    )

pub mark_content-loop-i-preserved : goal.mark_content-loop-i-preserved
mark_content-loop-i-preserved t c =
    let f = new_marks (documents_of c.args.walk.now.schema.now.spec) c.args.walk.now.marking.now c.args.reach in
    let l : c.loop-i.i < length c.children-children.result = omega (arith, c.loop-i-test.true, c.children_in-touched.ensures.within) in
    let d = c.deref.ensures in
    marked-more f c.args.walk.now.parent c.children-children.result c.args.from c.args.to c.requires.order _ _ _ c.size-size.result _ _ c.get-child.result.now _ _ c.loop-i.invariant l c.get-child.ensures
    (subst (λ n. Balanced (node_tokens n)) d c.size-size.ensures.whole) (c.size-size.ensures.size ∙ ap (λ n. length (node_tokens n)) d)
    c.in_ok-mark_child.ensures c.saturating_sub-start.ensures c.saturating_sub-end.ensures

pub mark_content-append-requires-2-clause-room : goal.mark_content-append-requires-2-clause-room
mark_content-append-requires-2-clause-room t c =
    let f = new_marks (documents_of c.args.walk.now.schema.now.spec) c.args.walk.now.marking.now c.args.reach in
    let xs = c.children-children.result in
    let e = c.children_in-touched.result.end in
    let g : c.loop-i.i ≡ e = omega (arith, c.loop-i-test.false, c.children_in-touched.ensures.order) in
    let size = marked-size f c.args.walk.now.parent xs c.args.from c.args.to c.requires.order _ _ _ _ c.loop-i.invariant in
    let behind = rest-is xs e c.len.result c.len.ensures (omega (arith, c.len.ensures, c.children_in-touched.ensures.within)) in
    omega (arith, size, ap (λ k. length (front xs k)) g, ap length behind, ap length (front-rest xs e), length-append (front xs e) (rest xs e), c.children-children.ensures.bound)

pub mark_content-returns : goal.mark_content-returns
mark_content-returns t c = λ ps.
    let f = new_marks (documents_of c.args.walk.now.schema.now.spec) c.args.walk.now.marking.now c.args.reach in
    let xs = c.children-children.result in
    let b = c.children_in-touched.ensures in
    let e = c.children_in-touched.result.end in
    let g : c.loop-i.i ≡ e = omega (arith, c.loop-i-test.false, b.order) in
    marked-end f c.args.walk.now.parent xs c.args.from c.args.to c.requires.order e _ _ c.len.result _ _
    (subst (λ k. Marked f c.args.walk.now.parent xs k c.args.from c.args.to c.loop-i.start c.loop-i.end c.loop-i.made) g c.loop-i.invariant)
    c.len.ensures (omega (arith, c.len.ensures, b.within)) b.stops c.in_ok-append-2.ensures ps
    ∙ ap (marked_in f (c.args.walk.now.parent ∷ ps) c.args.from c.args.to) c.children-children.ensures.tokens

pub mark_child-returns-then-to-from : goal.mark_child-returns-then-to-from
mark_child-returns-then-to-from t c =
    let f = new_marks (documents_of c.args.walk.now.schema.now.spec) c.args.walk.now.marking.now c.args.reach in
    on_ok_weaker c.push_shared.result
    (λ e ps. e ∙ ap (λ z. c.args.made.now ++ z) (sym (marked-none f c.args.walk.now.parent ps c.args.from c.args.to (node_tokens (arc_value c.args.node.now)) c.requires.order c.if-to-from.true)))
    c.push_shared.ensures

pub mark_part-mark_text-requires-clause-room : goal.mark_part-mark_text-requires-clause-room
mark_part-mark_text-requires-clause-room t c =
    let n = c.args.node.now in
    omega (arith, c.requires.room, ap length (node_tokens_at n (Text c.in-Text.units) c.in-Text.is), length-text_tokens n.marks c.in-Text.units)

pub mark_part-mark_content-requires : goal.mark_part-mark_content-requires
mark_part-mark_content-requires t c =
    let n = c.args.node.now in
    let inner = c.in-Children.inner in
    let count = length c.args.walk.now.schema.now.spec.nodes in
    let d : 3 * length (node_tokens n) ≡ t = c.decreases in
    let size : length (node_tokens n) ≡ length inner + 2 = omega (arith, ap length (node_tokens_at n (Children inner) c.in-Children.is), length-append inner (Close ∷ [])) in
    let known = known-inner count n inner c.in-Children.is c.requires.known in
    let g : 3 * length inner + 2 < t = omega (arith, d, size) in
    (g, (omega (arith, c.saturating_sub-start.ensures, c.requires.some), (known.0, known.1)))

pub mark_part-push_with-requires-in-Children : goal.mark_part-push_with-requires-in-Children
mark_part-push_with-requires-in-Children t c =
    let f = new_marks (documents_of c.args.walk.now.schema.now.spec) c.args.walk.now.marking.now c.args.reach in
    let n = c.args.node.now in
    let inner = c.in-Children.inner in
    let size : length (node_tokens n) ≡ length inner + 2 = omega (arith, ap length (node_tokens_at n (Children inner) c.in-Children.is), length-append inner (Close ∷ [])) in
    let same = marked-length f n.kind c.saturating_sub-start.result _ inner c.in_ok-inner-in-Children.inner (omega (arith, c.saturating_sub-start.ensures, c.requires.some)) c.in_ok-inner-in-Children.ensures in
    omega (arith, c.requires.room, size, same, length-append c.in_ok-inner-in-Children.inner (Close ∷ []))

pub mark_part-returns-in_ok-marks-in-Text : goal.mark_part-returns-in_ok-marks-in-Text
mark_part-returns-in_ok-marks-in-Text t c =
    let s = documents_of c.args.walk.now.schema.now.spec in
    let f = new_marks s c.args.walk.now.marking.now c.args.reach in
    let n = c.args.node.now in
    on_ok_weaker c.mark_text.result
    (λ e ps. e ∙ ap (λ z. c.args.made.now ++ z) (marked-text f c.args.walk.now.parent ps n c.in-Text.units c.in_ok-marks-in-Text.marks c.args.from c.args.to c.in-Text.is (omega (arith, c.requires.some)) (λ u. sym c.in_ok-marks-in-Text.ensures)))
    c.mark_text.ensures

pub mark_part-returns-in_ok-marks-in-Leaf : goal.mark_part-returns-in_ok-marks-in-Leaf
mark_part-returns-in_ok-marks-in-Leaf t c =
    let s = documents_of c.args.walk.now.schema.now.spec in
    let f = new_marks s c.args.walk.now.marking.now c.args.reach in
    let n = c.args.node.now in
    let sort = sort-is s c.args.walk.now.marking.now c.args.reach c.of-sort.result c.args.walk.now.parent (Leaf n.kind n.attrs n.marks) n.marks (c.of-sort.ensures.takes ∙ and-yes (s.is_inline n.kind) (s.is_atom n.kind)) c.of-sort.ensures.inline c.of-sort.ensures.node in
    on_ok_weaker c.push_with.result
    (λ e ps. e ∙ ap (λ z. c.args.made.now ++ z) (marked-leaf f c.args.walk.now.parent ps n c.in_ok-marks-in-Leaf.marks c.args.from c.args.to c.in-Leaf.is c.requires.some c.requires.start (sym (c.in_ok-marks-in-Leaf.ensures ∙ sort))))
    c.push_with.ensures

pub mark_part-returns-in_ok-inner-in-Children : goal.mark_part-returns-in_ok-inner-in-Children
mark_part-returns-in_ok-inner-in-Children t c =
    let s = documents_of c.args.walk.now.schema.now.spec in
    let f = new_marks s c.args.walk.now.marking.now c.args.reach in
    let n = c.args.node.now in
    let inner = c.in-Children.inner in
    on_ok_weaker c.push_with-in-Children.result
    (λ e ps. e ∙ ap (λ z. c.args.made.now ++ z) (marked-open f c.args.walk.now.parent ps n inner c.in_ok-inner-in-Children.inner c.in_ok-marks-in-Children.marks c.args.from c.args.to c.saturating_sub-start.result _
    c.in-Children.is c.size.ensures.whole c.requires.some c.in_ok-marks-in-Children.ensures.start c.in_ok-marks-in-Children.ensures.inside c.saturating_sub-start.ensures refl c.in_ok-inner-in-Children.ensures))
    c.push_with-in-Children.ensures
