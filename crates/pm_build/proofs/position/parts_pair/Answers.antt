use Rattle.std.proofs.Common.{◌≡◌, ◌-◌, true, false, arith, sym, ap, ◌∙◌}
use Rattle.std.specs.Prelude.{◌&&◌}
use Rattle.pm_build.specs.Positions.{unit_at, high_unit, low_unit}
use Rattle.pm_build.proofs.PositionLaws.{parts-is}
use Rattle.pm_build.proofs.position.parts_pair.Goals as goal

pub returns-then-is_high : goal.returns-then-is_high
returns-then-is_high c =
    let ts = c.args.content.now in
    let h : high_unit (unit_at ts (c.args.pos - 1)) ≡ true = ap high_unit (sym c.unit_at-before.ensures) ∙ (sym c.is_high.ensures ∙ c.if-is_high.true) in
    c.is_low.ensures ∙ (ap low_unit c.unit_at-behind.ensures
    ∙ sym (parts-is ts c.args.pos (omega arith) ∙ ap (λ z. z && low_unit (unit_at ts c.args.pos)) h))

pub returns-else-is_high : goal.returns-else-is_high
returns-else-is_high c =
    let ts = c.args.content.now in
    let h : high_unit (unit_at ts (c.args.pos - 1)) ≡ false = ap high_unit (sym c.unit_at-before.ensures) ∙ (sym c.is_high.ensures ∙ c.if-is_high.false) in
    c.if-is_high.false ∙ sym (parts-is ts c.args.pos (omega arith) ∙ ap (λ z. z && low_unit (unit_at ts c.args.pos)) h)
