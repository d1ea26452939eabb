use Rattle.std.proofs.Common.{sym, ◌∙◌, true≢false, refl}
use Rattle.pm_units.proofs.units.Units.text.Goals as goal

pub returns-in-None-clause-lone : goal.returns-in-None-clause-lone
returns-in-None-clause-lone c = λ at.
    (λ h. absurd (c.whole_text.ensures.lone at h), λ f. absurd (true≢false (sym f.lone ∙ c.in-None.ensures.none refl at)))
