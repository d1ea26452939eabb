use Rattle.std.proofs.Common.{rules, arith, ◌≡◌, ◌+◌, ◌≤◌, ◌∙◌, subst, refl, None, [], true}
use Rattle.pm_auto.specs.declared.expr.Expr.TheViews.{the_lemmas}
use Rattle.pm_auto.specs.Core.{Core, Empty, Loop, nullable}
use Rattle.pm_auto.specs.Expand.{expand, and_copies, optional, range}
use Rattle.pm_auto.specs.Table.{width, part, one_or, one_then, repeated}
use Rattle.pm_auto.proofs.PartLaws.{room-choice, room-turn, step-choice, step-turn, room-copies, step-copies, room-low, room-more, room-last, step-last, part-optional, part-repeated, none-is, low-none, low-some, if_ok-map}
use Rattle.pm_auto.specs.Trim.{trim}
use Rattle.pm_auto.specs.Alike.{Alike}
use Rattle.pm_auto.proofs.TrimLaws.{nullable-trim}
use Rattle.pm_auto.proofs.WidthLaws.{expand_all-items, width-in_turn, width-one_of, width-and_copies}
use Rattle.pm_auto.proofs.layout.+lay_out.Goals as goal
use Rattle.pm_auto.proofs.layout.+lay_out.Goals.{lay_out_range-then-low-eq0, lay_out_range-else-low-eq0}

pub lay_out-lay_out_choice-requires : goal.lay_out-lay_out_choice-requires
lay_out-lay_out_choice-requires t c = search (rules, the_lemmas, width-one_of, expand_all-items)

pub lay_out-lay_out_sequence-requires : goal.lay_out-lay_out_sequence-requires
lay_out-lay_out_sequence-requires t c = search (rules, the_lemmas, width-in_turn, expand_all-items)

pub lay_out-returns-in-Choice : goal.lay_out-returns-in-Choice
lay_out-returns-in-Choice t c = search (rules, the_lemmas, expand_all-items)

pub lay_out-returns-in-Seq : goal.lay_out-returns-in-Seq
lay_out-returns-in-Seq t c = search (rules, the_lemmas, expand_all-items)

pub lay_out-returns-in_ok-once-in-Plus : goal.lay_out-returns-in_ok-once-in-Plus
lay_out-returns-in_ok-once-in-Plus t c =
    let e : Loop (expand c.deref.result.now) ≡ expand c.args.expr.now = search (rules, the_lemmas) in
    if_ok-map (λ p. Alike p (repeated c.in_ok-once-in-Plus.once)) (λ p. Alike p (part c.args.from (trim (expand c.args.expr.now)))) c.repeat.result
    (λ p h. subst (λ (z : Core). Alike p (part c.args.from (trim z))) e (part-repeated c.args.from (trim (expand c.deref.result.now)) c.in_ok-once-in-Plus.once p c.in_ok-once-in-Plus.ensures h))
    c.repeat.ensures

pub lay_out-returns-in_ok-more-in-Star : goal.lay_out-returns-in_ok-more-in-Star
lay_out-returns-in_ok-more-in-Star t c =
    let e : optional (Loop (expand c.deref-in-Star.result.now)) ≡ expand c.args.expr.now = search (rules, the_lemmas) in
    if_ok-map (λ p. p ≡ one_or record { rows = []; first = []; may_be_empty = true } c.in_ok-more-in-Star.more) (λ p. Alike p (part c.args.from (trim (expand c.args.expr.now)))) c.optional.result
    (λ p h. subst (λ (z : Core). Alike p (part c.args.from (trim z))) e
    (part-optional c.args.from (Loop (trim (expand c.deref-in-Star.result.now))) c.in_ok-more-in-Star.more p
    (part-repeated c.args.from (trim (expand c.deref-in-Star.result.now)) c.in_ok-once-in-Star.once c.in_ok-more-in-Star.more c.in_ok-once-in-Star.ensures c.in_ok-more-in-Star.ensures) h))
    c.optional.ensures

pub lay_out_choice-overflow_add-from : goal.lay_out_choice-overflow_add-from
lay_out_choice-overflow_add-from t c =
    let h : c.args.from + c.len.result + width (expand c.item-item.result) ≤ 4096 =
    room-choice c.args.from c.args.items.now c.loop-item.item-index c.item-item.result c.loop-item.part c.len.result c.loop-item-test.true c.item-item.is c.len.ensures c.requires c.loop-item.invariant in
    omega arith

pub lay_out_choice-lay_out-requires : goal.lay_out_choice-lay_out-requires
lay_out_choice-lay_out-requires t c =
    (search (rules, the_lemmas), room-choice c.args.from c.args.items.now c.loop-item.item-index c.item-item.result c.loop-item.part c.len.result c.loop-item-test.true c.item-item.is c.len.ensures c.requires c.loop-item.invariant)

pub lay_out_choice-loop-item-preserved : goal.lay_out_choice-loop-item-preserved
lay_out_choice-loop-item-preserved t c =
    step-choice c.args.from c.args.items.now c.loop-item.item-index c.item-item.result c.loop-item.part c.len.result c.loop-item-test.true c.item-item.is c.len.ensures
    c.in_ok-next.next c.in_ok-part.part c.loop-item.invariant c.in_ok-next.ensures c.in_ok-part.ensures

pub lay_out_sequence-overflow_add-from : goal.lay_out_sequence-overflow_add-from
lay_out_sequence-overflow_add-from t c =
    let h : c.args.from + c.len.result + width (expand c.item-item.result) ≤ 4096 =
    room-turn c.args.from c.args.items.now c.loop-item.item-index c.item-item.result c.loop-item.part c.len.result c.loop-item-test.true c.item-item.is c.len.ensures c.requires c.loop-item.invariant in
    omega arith

pub lay_out_sequence-lay_out-requires : goal.lay_out_sequence-lay_out-requires
lay_out_sequence-lay_out-requires t c =
    (search (rules, the_lemmas), room-turn c.args.from c.args.items.now c.loop-item.item-index c.item-item.result c.loop-item.part c.len.result c.loop-item-test.true c.item-item.is c.len.ensures c.requires c.loop-item.invariant)

pub lay_out_sequence-loop-item-preserved : goal.lay_out_sequence-loop-item-preserved
lay_out_sequence-loop-item-preserved t c =
    step-turn c.args.from c.args.items.now c.loop-item.item-index c.item-item.result c.loop-item.part c.len.result c.loop-item-test.true c.item-item.is c.len.ensures
    c.in_ok-next.next c.in_ok-part.part c.loop-item.invariant c.in_ok-next.ensures c.in_ok-part.ensures

pub lay_out_copies-overflow_add-from : goal.lay_out_copies-overflow_add-from
lay_out_copies-overflow_add-from t c =
    let h : c.args.from + c.len.result + width (expand c.args.inner.now) ≤ 4096 =
    room-copies c.args.from c.loop-i._i Empty (expand c.args.inner.now) c.loop-i.part c.len.result c.len.ensures c.args.low c.loop-i-test.true (omega (arith, c.requires)) c.loop-i.invariant in
    omega arith

pub lay_out_copies-lay_out-requires : goal.lay_out_copies-lay_out-requires
lay_out_copies-lay_out-requires t c =
    (search rules, room-copies c.args.from c.loop-i._i Empty (expand c.args.inner.now) c.loop-i.part c.len.result c.len.ensures c.args.low c.loop-i-test.true (omega (arith, c.requires)) c.loop-i.invariant)

pub lay_out_copies-loop-i-preserved : goal.lay_out_copies-loop-i-preserved
lay_out_copies-loop-i-preserved t c =
    step-copies c.args.from c.loop-i._i Empty (expand c.args.inner.now) c.loop-i.part c.len.result c.len.ensures c.in_ok-next.next c.in_ok-part.part c.loop-i.invariant c.in_ok-next.ensures c.in_ok-part.ensures

pub lay_out_more-overflow_add-from : goal.lay_out_more-overflow_add-from
lay_out_more-overflow_add-from t c =
    let h : c.args.from + c.len.result + width (optional (expand c.args.inner.now)) ≤ 4096 =
    room-copies c.args.from c.loop-i._i (and_copies Empty c.args.low (expand c.args.inner.now)) (optional (expand c.args.inner.now)) c.loop-i.part c.len.result c.len.ensures c.args.more c.loop-i-test.true (omega (arith, c.requires.narrow, width-and_copies c.args.low Empty (expand c.args.inner.now))) c.loop-i.invariant in
    omega arith

pub lay_out_more-lay_out-requires : goal.lay_out_more-lay_out-requires
lay_out_more-lay_out-requires t c =
    let h : c.args.from + c.len.result + width (optional (expand c.args.inner.now)) ≤ 4096 =
    room-copies c.args.from c.loop-i._i (and_copies Empty c.args.low (expand c.args.inner.now)) (optional (expand c.args.inner.now)) c.loop-i.part c.len.result c.len.ensures c.args.more c.loop-i-test.true (omega (arith, c.requires.narrow, width-and_copies c.args.low Empty (expand c.args.inner.now))) c.loop-i.invariant in
    (search rules, omega (arith, h))

pub lay_out_more-loop-i-preserved : goal.lay_out_more-loop-i-preserved
lay_out_more-loop-i-preserved t c =
    step-copies c.args.from c.loop-i._i (and_copies Empty c.args.low (expand c.args.inner.now)) (optional (expand c.args.inner.now)) c.loop-i.part c.len.result c.len.ensures c.in_ok-next.next c.in_ok-part.part c.loop-i.invariant
    (part-optional (c.args.from + c.len.result) (trim (expand c.args.inner.now)) c.in_ok-once.once c.in_ok-next.next c.in_ok-once.ensures c.in_ok-next.ensures) c.in_ok-part.ensures

pub lay_out_range-returns-then-width-eq0 : goal.lay_out_range-returns-then-width-eq0
lay_out_range-returns-then-width-eq0 t c =
    let e : c.in_ok-once.once.may_be_empty ≡ nullable (expand c.args.inner.now) = c.in_ok-once.ensures.may_be_empty ∙ nullable-trim (expand c.args.inner.now) in
    none-is c.args.from c.args.low c.args.high (expand c.args.inner.now) c.if-low-eq0.no_places c.no_places.result (omega (arith, c.width.ensures, c.if-width-eq0.true))
    (elim c.if-low-eq0.branch [
      | lay_out_range-then-low-eq0 w ↦ low-none c.args.low c.if-low-eq0.no_places (nullable (expand c.args.inner.now)) w.if-low-eq0.true (w.no_places-is ∙ rw w.if-low-eq0.true refl)
      | lay_out_range-else-low-eq0 w ↦ low-some c.args.low c.if-low-eq0.no_places (nullable (expand c.args.inner.now)) w.if-low-eq0.false (w.no_places-is ∙ e)
    ])
    c.no_places.ensures

pub lay_out_range-lay_out_copies-requires : goal.lay_out_range-lay_out_copies-requires
lay_out_range-lay_out_copies-requires t c = (search rules, room-low c.args.from c.args.low (expand c.args.inner.now) c.args.high c.requires)

pub lay_out_range-lay_out-requires-in-None : goal.lay_out_range-lay_out-requires-in-None
lay_out_range-lay_out-requires-in-None t c =
    (search rules, room-last c.args.from c.args.low (expand c.args.inner.now) c.in_ok-part.part c.len.result (subst (λ h. c.args.from + width (range (expand c.args.inner.now) c.args.low h) ≤ 4096) c.in-None.is c.requires) c.in_ok-part.ensures c.len.ensures)

pub lay_out_range-lay_out_more-requires : goal.lay_out_range-lay_out_more-requires
lay_out_range-lay_out_more-requires t c =
    (search rules, (c.in_ok-part.ensures, rw c.saturating_sub-more.ensures (room-more c.args.from c.args.low (expand c.args.inner.now) c.in-Some.high (subst (λ h. c.args.from + width (range (expand c.args.inner.now) c.args.low h) ≤ 4096) c.in-Some.is c.requires))))

pub lay_out_range-returns-in_ok-rest-in-None : goal.lay_out_range-returns-in_ok-rest-in-None
lay_out_range-returns-in_ok-rest-in-None t c =
    rw c.in-None.is (if_ok-map (λ p. Alike p (one_then c.in_ok-part.part c.in_ok-rest-in-None.rest)) (λ p. Alike p (part c.args.from (trim (range (expand c.args.inner.now) c.args.low None)))) c.then.result
    (λ p h. step-last c.args.from c.args.low (expand c.args.inner.now) c.in_ok-part.part c.len.result c.in_ok-once-in-None.once c.in_ok-more-in-None.more c.in_ok-rest-in-None.rest p
    c.in_ok-part.ensures c.len.ensures c.in_ok-once-in-None.ensures c.in_ok-more-in-None.ensures c.in_ok-rest-in-None.ensures h) c.then.ensures)
