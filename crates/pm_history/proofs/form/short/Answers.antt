use Rattle.std.proofs.Common.{◌∙◌, subst, sym}
use Rattle.pm_history.specs.Forms.{IsShort}
use Rattle.pm_history.proofs.Smalls.{one-range-at}
use Rattle.pm_history.proofs.form.short.Goals as goal

pub returns-in-Some-None : goal.returns-in-Some-None
returns-in-Some-None c =
    subst (IsShort c.args.start c.short_range.result.0 c.short_range.result.1)
    (one-range-at c.args.map.now c.in-Some-None.range (sym c.span.ensures ∙ c.in-Some-None.is-0) (sym c.span-2.ensures ∙ c.in-Some-None.is-1)) c.short_range.ensures
