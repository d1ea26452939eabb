use Rattle.std.proofs.Common.{sym, ◌∙◌, subst, true≢false}
use Rattle.pm_text.specs.Lone.{HasNoLone}
use Rattle.pm_units.proofs.units.Units.whole_text.Goals as goal

pub returns-clause-lone : goal.returns-clause-lone
returns-clause-lone c = λ at h.
    let units = c.deref.ensures.value ∙ (c.in-Ok.ensures ∙ c.self.view_is) in
    let none : HasNoLone c.deref.result.now = subst HasNoLone (sym units) c.requires in
    let first = (c.text_of.ensures.lone at).0 h in
    true≢false (sym first.lone ∙ none at)
