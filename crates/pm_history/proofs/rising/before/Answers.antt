use Rattle.std.proofs.Common.{◌≡◌, ◌<◌, ◌≤◌, ◌+◌, ◌-◌, ◌/◌, ◌∙◌, ap, subst, arith, get_or, length, Option}
use Rattle.pm_change.specs.declared.name.Name.{Name}
use Rattle.pm_history.specs.declared.item.Item.{Item}
use Rattle.pm_history.specs.Rising.{rank}
use Rattle.pm_history.proofs.RisingLaws.{below-middle, above-middle, not-below}
use Rattle.pm_history.proofs.rising.before.Goals as goal

pub loop-low-preserved-then-is_before : goal.loop-low-preserved-then-is_before
loop-low-preserved-then-is_before g c =
    let items = c.args.items.now in
    let known = c.loop-low.invariant in
    let middle = c.loop-low.low + (c.loop-low.high - c.loop-low.low) / 2 in
    let one = c.index-items-middle.result in
    let inside : middle < c.loop-low.high = omega (arith, c.loop-low-test.true) in
    let there : middle < length items = omega (arith, inside, known.within) in
    let here : rank (get_or items middle one).name < c.args.serial + 1 =
    subst (λ (o : Option Name). rank o < c.args.serial + 1) (c.name.ensures ∙ ap (λ (x : Item g.row.C.Denot). x.name) c.index-items-middle.is) (c.is_before.ensures.0 c.if-is_before.true) in
    record {
      order = omega (arith, inside);
      within = known.within;
      below = below-middle items (c.args.serial + 1) middle one c.requires there here;
      above = known.above;
    }

pub loop-low-preserved : goal.loop-low-preserved
loop-low-preserved g c =
    let items = c.args.items.now in
    let known = c.loop-low.invariant in
    let middle = c.loop-low.low + (c.loop-low.high - c.loop-low.low) / 2 in
    let one = c.index-items-middle.result in
    let inside : middle < c.loop-low.high = omega (arith, c.loop-low-test.true) in
    let there : middle < length items = omega (arith, inside, known.within) in
    let here : c.args.serial + 1 ≤ rank (get_or items middle one).name =
    subst (λ (o : Option Name). c.args.serial + 1 ≤ rank o) (c.name.ensures ∙ ap (λ (x : Item g.row.C.Denot). x.name) c.index-items-middle.is)
    (not-below c.is_before.result (rank c.name.result) (c.args.serial + 1) c.is_before.ensures c.if-is_before.false) in
    record {
      order = omega (arith, c.loop-low-test.true);
      within = omega (arith, there);
      below = known.below;
      above = above-middle items (c.args.serial + 1) middle one c.requires there here;
    }
