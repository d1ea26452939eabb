use Rattle.std.proofs.Common.{◌≡◌, ◌++◌, ap, ◌∙◌}
use Rattle.pm_units.specs.Pieces.{form_units}
use Rattle.pm_units.proofs.units.Units.join.Goals as goal

pub both_are_whole-whole-requires-clause-units : goal.both_are_whole-whole-requires-clause-units
both_are_whole-whole-requires-clause-units c =
    let units : form_units c.in_ok-form.form ≡ c.args.self.now ++ c.args.other.now = c.in_ok-form.ensures.units ∙ (ap (λ us. us ++ form_units c.other.inside.form) c.self.view_is ∙ ap (λ us. c.args.self.now ++ us) c.other.view_is) in
    units

pub invariant_of-result : goal.invariant_of-result
invariant_of-result c = record { form_is = c.in_ok-form.ensures.form; none = c.both_are_whole-whole.ensures }

pub returns : goal.returns
returns c =
    let units : form_units c.in_ok-form.form ≡ c.args.self.now ++ c.args.other.now = c.in_ok-form.ensures.units ∙ (ap (λ us. us ++ form_units c.other.inside.form) c.self.view_is ∙ ap (λ us. c.args.self.now ++ us) c.other.view_is) in
    units
