use Rattle.std.proofs.Common.{sym, subst}
use Rattle.pm_text.specs.Lone.{HasNoLone}
use Rattle.pm_units.proofs.units.Units.of_units.Goals as goal

pub invariant_of-result : goal.invariant_of-result
invariant_of-result c = record {
  form_is = c.in_ok-form.ensures.form;
  none = λ whole. subst HasNoLone (sym c.in_ok-form.ensures.units) (c.are_whole-whole.ensures whole);
}
