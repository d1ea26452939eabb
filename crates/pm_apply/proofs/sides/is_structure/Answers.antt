use Rattle.std.proofs.Common.{◌≡◌, ◌+◌, ◌-◌, [], length, arith, ap, sym, ◌∙◌}
use Rattle.std.specs.Prelude.{◌==◌}
use Rattle.pm_tokens.specs.Scan.{unmet, unclosed, part}
use Rattle.pm_tokens.proofs.OwnedParts.{length-part}
use Rattle.pm_apply.proofs.StructureLaws.{structure-by-count}
use Rattle.pm_apply.proofs.sides.is_structure.Goals as goal

pub returns : goal.returns
returns c =
    let p = part c.args.from c.args.to c.args.content.now in
    let n : length p ≡ c.args.to - c.args.from = omega (arith, length-part c.args.from c.args.to c.args.content.now, c.requires.within) in
    let a = c.open_start.ensures.side ∙ ap (λ z. z.open_start) c.in_ok-cut.ensures in
    let b = c.open_end.ensures.side ∙ ap (λ z. z.open_end) c.in_ok-cut.ensures in
    sym (structure-by-count p ∙ (ap (λ z. unmet 0 p + length (unclosed [] p) == z) n
    ∙ (ap (λ z. z + length (unclosed [] p) == c.args.to - c.args.from) (sym a) ∙ ap (λ z. c.open_start.result + z == c.args.to - c.args.from) (sym b))))
