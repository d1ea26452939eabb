use Rattle.std.proofs.Common.{◌++◌, subst, sym}
use Rattle.std.proofs.lemmas.List.{drop_all}
use Rattle.pm_client.specs.Rebasables.{NamedHasMap}
use Rattle.pm_revert.specs.Items.{other_items}
use Rattle.pm_revert.proofs.Tolds.{other-as, all-others}
use Rattle.pm_revert.proofs.telling.add_others.Goals as goal

pub step_map-requires : goal.step_map-requires
step_map-requires g c = subst (λ n. NamedHasMap g.C.Change.means n) (sym c.entry-item.is) (c.requires c.loop-entry.entry-index c.entry-item.result c.loop-entry-test.true)

pub loop-entry-preserved : goal.loop-entry-preserved
loop-entry-preserved g c =
    let m = g.C.Change.means in
    other-as m c.args.entries.now c.loop-entry.entry-index c.loop-entry.items.items c.push.new.self.items (c.args.items.now.items ++ other_items m c.args.entries.now) c.in_ok-item.item c.step_map.result
    c.entry-item.result c.loop-entry-test.true c.entry-item.is c.in_ok-push.ensures.items c.in_ok-item.ensures c.step_map.ensures c.loop-entry.invariant

pub returns : goal.returns
returns g c =
    let m = g.C.Change.means in
    let i = c.loop-entry.entry-index in
    all-others m c.args.entries.now i c.loop-entry.items.items (c.args.items.now.items ++ other_items m c.args.entries.now) (drop_all i c.args.entries.now c.loop-entry-test.false) c.loop-entry.invariant
