use Rattle.std.proofs.Common.{◌≡◌, ◌<◌, ◌-◌, ◌∙◌, ap, subst, arith, get_or, length, Option}
use Rattle.pm_change.specs.declared.name.Name.{Name}
use Rattle.pm_history.specs.declared.item.Item.{Item}
use Rattle.pm_history.specs.Rising.{rank}
use Rattle.pm_history.proofs.RisingLaws.{rise-last, rise-more}
use Rattle.pm_history.proofs.rising.rise.Goals as goal

pub loop-i-init : goal.loop-i-init
loop-i-init g c = record {
  within = omega arith;
  rise = rise-last c.args.items.now (length c.args.items.now - 1) (omega arith);
}

pub loop-i-preserved : goal.loop-i-preserved
loop-i-preserved g c =
    let items = c.args.items.now in
    let i = c.loop-i.i - 1 in
    let known = c.loop-i.invariant in
    let first = c.index-items-before.result in
    let next = c.index-items-i.result in
    let up : rank c.name.result < rank c.name-in-loop-i.result = c.rises_to.ensures.0 c.if-not-rises_to.false in
    let first_is = c.name.ensures ∙ ap (λ (x : Item g.row.C.Denot). x.name) c.index-items-before.is in
    let next_is = c.name-in-loop-i.ensures ∙ ap (λ (x : Item g.row.C.Denot). x.name) c.index-items-i.is in
    let here : rank (get_or items (i - 1) first).name < rank (get_or items i next).name =
    subst (λ (o : Option Name). rank o < rank (get_or items i next).name) first_is (subst (λ (o : Option Name). rank c.name.result < rank o) next_is up) in
    record {
      within = omega (arith, known.within);
      rise = rise-more items i first next (omega (arith, c.loop-i-test.true)) (omega (arith, known.within, c.loop-i-test.true)) here known.rise;
    }
