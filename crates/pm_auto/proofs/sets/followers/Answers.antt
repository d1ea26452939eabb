use Rattle.std.proofs.Common.{◌≡◌, ◌+◌, ◌∙◌, refl, eqb, false, true, drop, arith, ℕ}
use Rattle.std.proofs.lemmas.Bool.{eq-eqb}
use Rattle.pm_auto.specs.States.{has}
use Rattle.pm_auto.specs.Runs.{next_rows}
use Rattle.pm_auto.proofs.SetLaws.{below-on, next-at, eqb-not}
use Rattle.pm_auto.proofs.BitLaws.{held-join}
use Rattle.pm_auto.proofs.sets.followers.Goals as goal
use Rattle.pm_auto.proofs.sets.followers.Goals.{then-row-kind, else-row-kind}

pub loop-place-preserved : goal.loop-place-preserved
loop-place-preserved c =
    let inv = c.loop-place.invariant in
    let i : ℕ = c.loop-place.place-index in
    let b = below-on c.args.rows.now c.args.places.now i c.loop-place-test.true inv.below in
    let h = next-at c.args.rows.now c.args.places.now i c.loop-place-test.true inv.below c.index-rows-place.result c.index-rows-place.is c.args.kind in
    elim c.if-row-kind.branch [
      | then-row-kind w ↦
          let e : eqb c.index-rows-place.result.kind c.args.kind ≡ true = eq-eqb c.index-rows-place.result.kind c.args.kind w.if-row-kind.true in
          rw w.words-is record {
            long = w.join.ensures.same ∙ inv.long;
            below = b;
            held = λ j l. held-join w.join.new.words.items c.loop-place.words.items w.as_bits.result.now c.index-rows-place.result.follow (next_rows c.args.rows.now c.args.kind (drop (i + 1) c.args.places.now)) j (has j (next_rows c.args.rows.now c.args.kind c.args.places.now)) (w.join.ensures.joined j (omega (arith, inv.long))) (w.as_bits.ensures j) (inv.held j l ∙ rw (h, e) refl);
          }
      | else-row-kind w ↦
          let e : eqb c.index-rows-place.result.kind c.args.kind ≡ false = eqb-not c.index-rows-place.result.kind c.args.kind w.if-row-kind.false in
          rw w.words-is record { long = inv.long; below = b; held = λ j l. inv.held j l ∙ rw (h, e) refl }
    ]
