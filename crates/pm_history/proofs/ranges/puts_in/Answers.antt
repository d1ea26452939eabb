use Rattle.std.proofs.Common.{◌≡◌, ◌||◌, ◌∙◌, ap, sym, true, false}
use Rattle.pm_map.specs.Through.{range_at}
use Rattle.pm_history.specs.Fillings.{is_filled}
use Rattle.pm_history.proofs.Restorers.{puts-two}
use Rattle.pm_history.proofs.ranges.puts_in.Goals as goal

pub returns-then-is_filled : goal.returns-then-is_filled
returns-then-is_filled c =
    let rs = c.args.map.now in
    let first : is_filled (range_at rs 0) ≡ true = ap is_filled (sym c.span.ensures) ∙ sym c.is_filled.ensures ∙ c.if-is_filled.true in
    c.if-is_filled.true ∙ ap (λ t. t || is_filled (range_at rs 1)) (sym first) ∙ puts-two rs c.few.ensures

pub returns-else-is_filled : goal.returns-else-is_filled
returns-else-is_filled c =
    let rs = c.args.map.now in
    let first : is_filled (range_at rs 0) ≡ false = ap is_filled (sym c.span.ensures) ∙ sym c.is_filled.ensures ∙ c.if-is_filled.false in
    c.is_filled-else-is_filled.ensures ∙ ap is_filled c.span-else-is_filled.ensures ∙ ap (λ t. t || is_filled (range_at rs 1)) (sym first) ∙ puts-two rs c.few.ensures
