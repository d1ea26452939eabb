use Rattle.std.proofs.Common.{◌∙◌, ap, sym, arith}
use Rattle.pm_history.specs.declared.item.Item.{Item}
use Rattle.pm_selective.proofs.Readings.{named-none, named-fails}
use Rattle.pm_selective.proofs.telling.are_named.Goals as goal

pub returns-then-names-items : goal.returns-then-names-items
returns-then-names-items g c = sym (named-none c.args.names.now c.args.items.now c.if-names-items.true)

pub returns-then-not-is_step : goal.returns-then-not-is_step
returns-then-not-is_step g c =
    sym (c.loop-i.invariant ∙ named-fails c.args.names.now c.args.items.now c.loop-i.i _ c.index-items-i.result c.name.result c.is_step.result c.loop-i-test.true (omega (arith, c.loop-i-test.true, c.if-names-items.false))
    c.is_step.ensures (c.name.ensures ∙ ap (λ (x : Item g.row.C.Denot). x.name) c.index-items-i.is) c.if-not-is_step.true)
