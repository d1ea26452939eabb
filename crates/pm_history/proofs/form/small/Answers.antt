use Rattle.std.proofs.Common.{◌≡◌, ◌∙◌, ap, subst, sym, IfSome}
use Rattle.pm_history.specs.Items.{foreign_item}
use Rattle.pm_history.specs.Forms.{seen}
use Rattle.pm_history.proofs.Smalls.{no-range-at, one-range-at}
use Rattle.pm_history.proofs.form.small.Goals as goal

pub returns-in-None-default-clause-seen : goal.returns-in-None-default-clause-seen
returns-in-None-default-clause-seen g c = ap foreign_item (no-range-at c.args.map.now (sym c.span.ensures ∙ c.in-None-default.is-0))

pub returns-in-Some-None-clause-seen : goal.returns-in-Some-None-clause-seen
returns-in-Some-None-clause-seen g c =
    subst (λ rs. IfSome c.narrow.result (λ f. seen f ≡ foreign_item rs))
    (one-range-at c.args.map.now c.in-Some-None.span (sym c.span.ensures ∙ c.in-Some-None.is-0) (sym c.span-2.ensures ∙ c.in-Some-None.is-1)) c.narrow.ensures.seen
