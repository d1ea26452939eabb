use Rattle.std.proofs.Common.{◌≡◌, ◌∙◌, subst, sym, arith, false}
use Rattle.std.specs.List.{AllByRecursion as Each}
use Rattle.pm_history.specs.declared.item.Item.{Item}
use Rattle.pm_history.specs.Laters.{is_told}
use Rattle.pm_history.proofs.Steps.{drop-before}
use Rattle.pm_history.proofs.undoers.none_told.Goals as goal

pub loop-i-preserved : goal.loop-i-preserved
loop-i-preserved g c =
    let known = c.loop-i.invariant in
    let one = c.index-items-i.result in
    let P : Item g.row.C.Denot → Type 0 = λ i. is_told c.args.all i ≡ false in
    let here : P one = sym c.is_told.ensures ∙ c.if-is_told.false in
    record {
      within = omega (arith, known.within);
      none = subst (Each P) (sym (drop-before c.args.items.now c.loop-i.i one c.loop-i-test.true known.within)) (subst P c.index-items-i.is here, known.none);
    }
