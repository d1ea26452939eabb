use Rattle.std.proofs.Common.{◌-◌, ◌≡◌, ◌∙◌, ap, sym, true, false, get_or, arith, Some}
use Rattle.pm_history.specs.declared.item.Item.{Item}
use Rattle.pm_history.specs.Items.{one_step}
use Rattle.pm_history.proofs.LatestLaws.{latest_there, latest_none, lacks-before}
use Rattle.pm_history.proofs.latest.looked_for.Goals as goal

pub loop-i-preserved : goal.loop-i-preserved
loop-i-preserved g c =
    let items = c.args.items.now in
    let known = c.loop-i.invariant in
    let other : one_step (Some c.args.name) (get_or items (c.loop-i.i - 1) c.index-items-i.result).name ≡ false = ap (λ (x : Item g.row.C.Denot). one_step (Some c.args.name) x.name) (sym c.index-items-i.is) ∙ ap (one_step (Some c.args.name)) (sym c.name.ensures) ∙ sym c.one_step.ensures ∙ c.if-one_step.false in
    record {
      within = omega (arith, known.within);
      none = lacks-before c.args.name items c.loop-i.i c.index-items-i.result c.loop-i-test.true known.within other known.none;
    }

pub returns-then-one_step-clause-place : goal.returns-then-one_step-clause-place
returns-then-one_step-clause-place g c =
    let items = c.args.items.now in
    let here : one_step (Some c.args.name) (get_or items (c.loop-i.i - 1) c.index-items-i.result).name ≡ true = ap (λ (x : Item g.row.C.Denot). one_step (Some c.args.name) x.name) (sym c.index-items-i.is) ∙ ap (one_step (Some c.args.name)) (sym c.name.ensures) ∙ sym c.one_step.ensures ∙ c.if-one_step.true in
    latest_there c.args.name items (c.loop-i.i - 1) c.index-items-i.result (omega (arith, c.loop-i.invariant.within, c.loop-i-test.true)) here

pub returns-clause-place : goal.returns-clause-place
returns-clause-place g c = latest_none c.args.name c.args.items.now c.loop-i.i c.loop-i-test.false c.loop-i.invariant.none
