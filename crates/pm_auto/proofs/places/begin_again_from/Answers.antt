use Rattle.std.proofs.Common.{◌≡◌, ◌∙◌, ◌||◌, ℕ, true, false, refl, sym, ap}
use Rattle.pm_auto.specs.States.{has}
use Rattle.pm_auto.proofs.AlikeLaws.{row-again}
use Rattle.pm_auto.proofs.places.begin_again_from.Goals as goal
use Rattle.pm_auto.proofs.places.begin_again_from.Goals.{then-ends+in_ok-join, else-ends}

pub returns : goal.returns
returns c =
    let f : c.args.row.ends ≡ true → (j : ℕ) → has j c.if-ends.follow ≡ has j c.args.row.follow || has j c.args.first.now =
    elim c.if-ends.branch [
      | then-ends+in_ok-join w ↦ λ h j. ap (has j) w.follow-is ∙ w.in_ok-join.ensures j
      | else-ends w ↦ λ h j. absurd (let x : true ≡ false = sym h ∙ w.if-ends.false in cc)
    ] in
    let g : c.args.row.ends ≡ false → c.if-ends.follow ≡ c.args.row.follow =
    elim c.if-ends.branch [
      | then-ends+in_ok-join w ↦ λ h. absurd (let x : true ≡ false = sym w.if-ends.true ∙ h in cc)
      | else-ends w ↦ λ h. w.follow-is
    ] in
    row-again c.args.row record { kind = c.args.row.kind; follow = c.if-ends.follow; ends = c.args.row.ends } c.args.first.now refl refl f g
