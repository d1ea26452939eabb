use Rattle.std.proofs.Common.{◌≡◌, ◌∙◌, ap, List, ℕ}
use Rattle.std.proofs.lemmas.Result.{IfOk-weaker}
use Rattle.pm_auto.specs.Bits.{picked}
use Rattle.pm_auto.specs.States.{in_order}
use Rattle.pm_auto.proofs.BitLaws.{holds-order}
use Rattle.pm_auto.proofs.sets.in_order.Goals as goal

pub returns : goal.returns
returns c =
    IfOk-weaker c.choose.result (λ l. l ≡ picked c.as_slice.result.now 0 c.args.rows.now) (λ l. l ≡ in_order c.args.numbers.now 0 c.args.rows.now)
    (λ l h. h ∙ ap (λ (ws : List ℕ). picked ws 0 c.args.rows.now) c.as_slice.ensures ∙ holds-order c.args.numbers.now c.in_ok-words.words c.args.rows.now c.in_ok-words.ensures) c.choose.ensures
