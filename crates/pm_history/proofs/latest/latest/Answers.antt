use Rattle.std.proofs.Common.{◌≡◌, ◌∙◌, ap, sym, true, get_or, Some}
use Rattle.pm_history.specs.declared.item.Item.{Item}
use Rattle.pm_history.specs.Items.{one_step}
use Rattle.pm_history.proofs.LatestLaws.{latest_there}
use Rattle.pm_history.proofs.latest.latest.Goals as goal

pub returns-then-one_step-clause-place : goal.returns-then-one_step-clause-place
returns-then-one_step-clause-place g c =
    let items = c.args.items.now in
    let place = c.guess-place.result in
    let named = one_step (Some c.args.name) in
    let here : named (get_or items place c.index-items-place.result).name ≡ true = ap (λ (x : Item g.row.C.Denot). named x.name) (sym c.index-items-place.is) ∙ ap named (sym c.name.ensures) ∙ sym c.one_step.ensures ∙ c.if-one_step.true in
    latest_there c.args.name items place c.index-items-place.result c.guess-place.ensures here
