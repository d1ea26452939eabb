use Rattle.std.proofs.Common.{◌≡◌, sym, ◌∙◌, subst}
use Rattle.pm_units.specs.Pieces.{form_units}
use Rattle.pm_text.specs.Lone.{HasNoLone}
use Rattle.pm_text.specs.Units.{IsOneText}
use Rattle.pm_units.proofs.units.Units.of_text.Goals as goal

pub invariant_of-result : goal.invariant_of-result
invariant_of-result c =
    let units : form_units c.in_ok-form.form ≡ c.in_ok-units.units.items = c.in_ok-form.ensures.units ∙ c.deref.ensures.value in
    record { form_is = c.in_ok-form.ensures.form; none = λ whole. subst HasNoLone (sym units) c.in_ok-units.ensures.whole }

pub returns-clause-text : goal.returns-clause-text
returns-clause-text c =
    let units : form_units c.in_ok-form.form ≡ c.in_ok-units.units.items = c.in_ok-form.ensures.units ∙ c.deref.ensures.value in
    subst (λ us. IsOneText us c.args.text.now) (sym units) c.in_ok-units.ensures.text

pub returns-clause-whole : goal.returns-clause-whole
returns-clause-whole c =
    let units : form_units c.in_ok-form.form ≡ c.in_ok-units.units.items = c.in_ok-form.ensures.units ∙ c.deref.ensures.value in
    subst HasNoLone (sym units) c.in_ok-units.ensures.whole
