use Rattle.std.proofs.Common.{true≢false, sym, ◌∙◌, ap, Err}
use Rattle.pm_units.proofs.texts.lossy.Goals as goal

pub returns-in_ok-text-in-Err-Lone-clause-again : goal.returns-in_ok-text-in-Err-Lone-clause-again
returns-in_ok-text-in-Err-Lone-clause-again c = λ whole.
    let at = c.in-Err-Lone.field-0-0 in
    let first = (c.in-Err-Lone.ensures.lone at).0 (ap Err c.in-Err-Lone.field-0-is) in
    absurd (true≢false (sym first.lone ∙ whole at))
