use Rattle.std.proofs.Common.{◌≡◌, ◌∙◌, ap, sym, true, arith, get_or, Some}
use Rattle.std.proofs.lemmas.List.{get_or_default}
use Rattle.pm_history.specs.declared.item.Item.{Item}
use Rattle.pm_history.specs.Items.{one_step}
use Rattle.pm_history.proofs.RisingLaws.{find-there, find-gone}
use Rattle.pm_history.proofs.rising.searched.Goals as goal
use Rattle.pm_history.proofs.rising.searched.Goals.{else-place-items-via-then-place-items+else-one_step, else-place-items-via-else-place-items}

pub returns-then-one_step-clause-found : goal.returns-then-one_step-clause-found
returns-then-one_step-clause-found g c =
    let items = c.args.items.now in
    let place = c.before-place.result in
    let named = one_step (Some c.args.name) in
    let here : named (get_or items place c.index-items-place.result).name ≡ true =
    ap (λ (x : Item g.row.C.Denot). named x.name) (sym c.index-items-place.is) ∙ ap named (sym c.name.ensures) ∙ sym c.one_step.ensures ∙ c.if-one_step.true in
    find-there c.args.name items place c.index-items-place.result c.if-place-items.true c.before-place.ensures.below here

pub returns-clause-found : goal.returns-clause-found
returns-clause-found g c =
    let items = c.args.items.now in
    let place = c.before-place.result in
    let named = one_step (Some c.args.name) in
    let known = c.before-place.ensures in
    elim c.else-place-items.branch [
      | else-place-items-via-then-place-items+else-one_step w ↦
          find-gone c.args.name items place c.requires known.within known.below known.above
          (λ e l. ap (λ (x : Item g.row.C.Denot). named x.name) (get_or_default items place e w.index-items-place.result l ∙ sym w.index-items-place.is)
          ∙ ap named (sym w.name.ensures) ∙ sym w.one_step.ensures ∙ w.if-one_step.false)
      | else-place-items-via-else-place-items w ↦
          find-gone c.args.name items place c.requires known.within known.below known.above (λ e l. absurd (omega (arith, l, w.if-place-items.false)))
    ]
