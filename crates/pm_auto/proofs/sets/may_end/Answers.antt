use Rattle.std.proofs.Common.{◌≡◌, ◌∙◌, sym, refl, eqb, false, true}
use Rattle.std.proofs.lemmas.Bool.{eq-eqb}
use Rattle.pm_auto.proofs.SetLaws.{below-on, end-at, eqb-not}
use Rattle.pm_auto.proofs.sets.may_end.Goals as goal
use Rattle.pm_auto.proofs.sets.may_end.Goals.{else-row-kind-via-then-row-kind+else-row, else-row-kind-via-else-row-kind}

pub returns-then-row : goal.returns-then-row
returns-then-row c =
    let e : eqb c.index-rows-place.result.kind c.args.kind ≡ true = eq-eqb c.index-rows-place.result.kind c.args.kind c.if-row-kind.true in
    let h = end-at c.args.rows.now c.args.places.now c.loop-place.place-index c.loop-place-test.true c.loop-place.invariant.0 c.index-rows-place.result c.index-rows-place.is c.args.kind in
    sym (c.loop-place.invariant.1 ∙ h ∙ rw (e, c.if-row.true) refl)

pub loop-place-preserved : goal.loop-place-preserved
loop-place-preserved c =
    let h = end-at c.args.rows.now c.args.places.now c.loop-place.place-index c.loop-place-test.true c.loop-place.invariant.0 c.index-rows-place.result c.index-rows-place.is c.args.kind in (
      below-on c.args.rows.now c.args.places.now c.loop-place.place-index c.loop-place-test.true c.loop-place.invariant.0,
      elim c.else-row-kind.branch [
        | else-row-kind-via-then-row-kind+else-row w ↦
            let e : eqb c.index-rows-place.result.kind c.args.kind ≡ true = eq-eqb c.index-rows-place.result.kind c.args.kind w.if-row-kind.true in
            c.loop-place.invariant.1 ∙ h ∙ rw (e, w.if-row.false) refl
        | else-row-kind-via-else-row-kind w ↦
            let e : eqb c.index-rows-place.result.kind c.args.kind ≡ false = eqb-not c.index-rows-place.result.kind c.args.kind w.if-row-kind.false in
            c.loop-place.invariant.1 ∙ h ∙ rw e refl
      ],
    )
