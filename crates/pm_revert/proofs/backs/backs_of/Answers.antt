use Rattle.std.proofs.Common.{◌++◌, reverse, ap, ◌∙◌}
use Rattle.pm_revert.specs.Backs.{backs_at}
use Rattle.pm_revert.proofs.Gatherings.{one-applies, one-found}
use Rattle.pm_revert.proofs.backs.backs_of.Goals as goal

pub inverse-requires-clause-applies : goal.inverse-requires-clause-applies
inverse-requires-clause-applies g c =
    one-applies g.C.Change.means c.args.rules.now c.args.before.now c.args.entries.now c.loop-entry.entry-index c.loop-entry.so_far c.loop-entry.index c.loop-entry.found.items c.entry-item.result
    c.loop-entry-test.true c.entry-item.is c.loop-entry.invariant

pub after-requires-clause-applies : goal.after-requires-clause-applies
after-requires-clause-applies g c =
    one-applies g.C.Change.means c.args.rules.now c.args.before.now c.args.entries.now c.loop-entry.entry-index c.loop-entry.so_far c.loop-entry.index c.loop-entry.found.items c.entry-item.result
    c.loop-entry-test.true c.entry-item.is c.loop-entry.invariant

pub loop-entry-preserved : goal.loop-entry-preserved
loop-entry-preserved g c =
    one-found g.C.Change.means c.args.rules.now c.args.before.now c.args.entries.now c.loop-entry.entry-index c.loop-entry.so_far c.loop-entry.index c.loop-entry.found.items c.entry-item.result
    c.loop-entry-test.true c.entry-item.is c.loop-entry.invariant g.met.C.Change.laws c.in_ok-next.next c.add_turned.new.found.items c.in_ok-next.ensures
    (c.in_ok-add_turned.ensures ∙ ap (λ cs. backs_at c.loop-entry.index cs ++ reverse c.loop-entry.found.items) c.in_ok-changes.ensures)
