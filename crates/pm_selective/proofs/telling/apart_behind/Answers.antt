use Rattle.std.proofs.Common.{◌≡◌, ◌∙◌, ◌++◌, ◌+◌, ◌-◌, suc, sym, ap, subst, arith, drop, [], Vec, Global}
use Rattle.pm_selective.specs.declared.telling.Reach.{Reach}
use Rattle.pm_selective.specs.Apart.{moved_reaches, reaches}
use Rattle.pm_map.specs.Moves.{inverted_ranges}
use Rattle.pm_selective.specs.Tests.{apart_from, apart_behind, FitReaches, HasRoomAll}
use Rattle.pm_selective.proofs.Readings.{room-at, kept-later, kept-event}
use Rattle.pm_selective.proofs.telling.apart_behind.Goals as goal
use Rattle.pm_selective.proofs.telling.apart_behind.Goals.{then-left-eq0+else-not-apart_from+in_ok-found, else-left-eq0+in_ok-found-2+in_ok-add_ranges}

pub moved_reaches-requires : goal.moved_reaches-requires
moved_reaches-requires g c =
    subst (λ rs. HasRoomAll rs c.deref-then-left-eq0.result.now) (sym c.map-map.ensures)
    (room-at c.loop-item.found.items c.deref-then-left-eq0.result.now c.args.items.now c.loop-item.item-index c.item-item.result c.loop-item-test.true c.item-item.is c.deref-then-left-eq0.ensures.value c.loop-item.invariant.fits)

pub moved_reaches-requires-else-left-eq0 : goal.moved_reaches-requires-else-left-eq0
moved_reaches-requires-else-left-eq0 g c =
    subst (λ rs. HasRoomAll rs c.deref-else-left-eq0.result.now) (sym c.map-map.ensures)
    (room-at c.loop-item.found.items c.deref-else-left-eq0.result.now c.args.items.now c.loop-item.item-index c.item-item.result c.loop-item-test.true c.item-item.is c.deref-else-left-eq0.ensures.value c.loop-item.invariant.fits)

pub loop-item-preserved : goal.loop-item-preserved
loop-item-preserved g c =
    let xs = c.loop-item.found.items in
    let at = c.loop-item.item-index in
    let items = c.args.items.now in
    let item = c.item-item.result in
    let rest = drop (at + 1) items in
    let whole = apart_behind c.args.count [] items in
    let known = c.loop-item.invariant in
    elim c.if-left-eq0.branch [
      | then-left-eq0+else-not-apart_from+in_ok-found w ↦
          let apart = ap (apart_from item.map) (sym w.deref.ensures.value) ∙ ap (λ rs. apart_from rs w.deref.result.now) (sym c.map-map.ensures) ∙ sym w.apart_from.ensures ∙ w.if-not-apart_from.false in
          let k = kept-later xs w.in_ok-found.found.items [] items at item whole c.loop-item-test.true c.item-item.is known.fits
          (w.in_ok-found.ensures ∙ ap (λ rs. moved_reaches rs w.deref-then-left-eq0.result.now) c.map-map.ensures ∙ ap (moved_reaches item.map) w.deref-then-left-eq0.ensures.value) apart
          (ap (λ n. apart_behind n xs (drop at items)) (sym w.if-left-eq0.true) ∙ known.same) in
          record {
            fits = subst (λ (v : Vec Reach Global). FitReaches v.items rest) (sym w.found-is) k.fits;
            same = ap (λ n. apart_behind n c.if-left-eq0.found.items rest) (w.left-is ∙ w.if-left-eq0.true)
                ∙ ap (λ (v : Vec Reach Global). apart_behind 0 v.items rest) w.found-is ∙ k.same;
          }
      | else-left-eq0+in_ok-found-2+in_ok-add_ranges w ↦
          let count = c.loop-item.left - 1 in
          let more : c.loop-item.left ≡ suc count = omega (arith, w.if-left-eq0.false) in
          let k = kept-event count xs w.add_ranges.new.found.items items at item whole c.loop-item-test.true c.item-item.is known.fits
          (w.in_ok-add_ranges.ensures ∙ ap (λ zs. zs ++ reaches w.inverted.result) (w.in_ok-found-2.ensures ∙ ap (λ rs. moved_reaches rs w.deref-else-left-eq0.result.now) c.map-map.ensures ∙ ap (moved_reaches item.map) w.deref-else-left-eq0.ensures.value)
          ∙ ap (λ m. moved_reaches item.map xs ++ reaches m) (w.inverted.ensures ∙ ap inverted_ranges c.map-map.ensures))
          (ap (λ n. apart_behind n xs (drop at items)) (sym more) ∙ known.same) in
          record {
            fits = subst (λ (v : Vec Reach Global). FitReaches v.items rest) (sym w.found-is) k.fits;
            same = ap (λ n. apart_behind n c.if-left-eq0.found.items rest) w.left-is
                ∙ ap (λ (v : Vec Reach Global). apart_behind count v.items rest) w.found-is ∙ k.same;
          }
    ]
