use Rattle.std.proofs.Common.{◌∙◌, ap, sym}
use Rattle.pm_history.specs.declared.item.Item.{Item}
use Rattle.pm_history.proofs.RisingLaws.{found_undoes, item-there, undoes-found}
use Rattle.pm_history.proofs.tied.undoes_named.Goals as goal

pub returns-in-Some : goal.returns-in-Some
returns-in-Some g c =
    let items = c.args.items.now in
    c.undoes.ensures ∙ ap (λ (x : Item g.row.C.Denot). x.undoes) c.index-items-place.is
    ∙ sym (undoes-found c.args.name items ∙ ap found_undoes (c.in-Some.ensures.found ∙ item-there items c.in-Some.place c.index-items-place.result c.in-Some.ensures.within))

pub returns-in-None : goal.returns-in-None
returns-in-None g c = sym (undoes-found c.args.name c.args.items.now ∙ ap found_undoes c.in-None.ensures.found)
