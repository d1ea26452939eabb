use Rattle.std.proofs.Common.{◌≡◌, ◌∙◌, ◌||◌, ◌&&◌, ℕ, true, false, refl, sym, ap}
use Rattle.pm_auto.specs.States.{has}
use Rattle.pm_auto.proofs.AlikeLaws.{row-onward}
use Rattle.pm_auto.proofs.places.go_on_from.Goals as goal
use Rattle.pm_auto.proofs.places.go_on_from.Goals.{then-may_end+in_ok-put_all, else-may_end, then-may_end-2, else-may_end-2}

pub returns : goal.returns
returns c =
    let q : c.if-may_end-2.result ≡ c.args.row.ends && c.args.ends =
    elim c.if-may_end-2.branch [
      | then-may_end-2 w ↦ w.result-is ∙ sym (ap (λ b. b && c.args.ends) w.if-may_end-2.true)
      | else-may_end-2 w ↦ w.result-is ∙ w.if-may_end-2.false ∙ sym (ap (λ b. b && c.args.ends) w.if-may_end-2.false)
    ] in
    let f : c.args.row.ends ≡ true → (j : ℕ) → has j c.if-may_end.follow ≡ has j c.args.row.follow || has j c.args.first.now =
    elim c.if-may_end.branch [
      | then-may_end+in_ok-put_all w ↦ λ h j. ap (has j) w.follow-is ∙ w.in_ok-put_all.ensures j
      | else-may_end w ↦ λ h j. absurd (let x : true ≡ false = sym h ∙ w.if-may_end.false in cc)
    ] in
    let g : c.args.row.ends ≡ false → c.if-may_end.follow ≡ c.args.row.follow =
    elim c.if-may_end.branch [
      | then-may_end+in_ok-put_all w ↦ λ h. absurd (let x : true ≡ false = sym w.if-may_end.true ∙ h in cc)
      | else-may_end w ↦ λ h. w.follow-is
    ] in
    row-onward c.args.row record { kind = c.args.row.kind; follow = c.if-may_end.follow; ends = c.if-may_end-2.result } c.args.first.now c.args.ends refl q f g
