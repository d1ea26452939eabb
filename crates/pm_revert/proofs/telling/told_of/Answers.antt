use Rattle.std.proofs.Common.{subst, sym}
use Rattle.std.proofs.lemmas.List.{drop_all}
use Rattle.pm_client.specs.Rebasables.{NamedHasMap}
use Rattle.pm_revert.proofs.Tolds.{none-gathered, own-is, gathered-as, all-names, all-items}
use Rattle.pm_revert.proofs.telling.told_of.Goals as goal

pub loop-entry-init : goal.loop-entry-init
loop-entry-init g c = none-gathered g.C.Change.means c.args.entries.now c.in_ok-names.names.items c.in_ok-items.items.items c.in_ok-names.ensures.items c.in_ok-items.ensures.items

pub step_map-map-requires : goal.step_map-map-requires
step_map-map-requires g c =
    subst (λ n. NamedHasMap g.C.Change.means n) (sym c.entry-item.is) (c.requires c.loop-entry.entry-index c.entry-item.result c.loop-entry-test.true)

pub loop-entry-preserved : goal.loop-entry-preserved
loop-entry-preserved g c =
    let m = g.C.Change.means in
    let serial = c.loop-entry.serial in
    let n = c.entry-item.result in
    let told = c.loop-entry.told in
    gathered-as m c.args.entries.now c.loop-entry.entry-index serial told.names.items c.push.new.self.items told.items.items c.push-in-loop-entry.new.self.items c.in_ok-own.field-0 n c.loop-entry-test.true
    c.entry-item.is c.in_ok-push.ensures.items c.in_ok-push-2.ensures.items (own-is m serial n c.in_ok-own.field-0 c.step_map-map.result c.new.result c.in_ok-own.ensures c.step_map-map.ensures c.new.ensures)
    c.loop-entry.invariant

pub returns : goal.returns
returns g c =
    let m = g.C.Change.means in
    let i = c.loop-entry.entry-index in
    let told = c.loop-entry.told in
    let none = drop_all i c.args.entries.now c.loop-entry-test.false in
    record {
      names = all-names m c.args.entries.now i c.loop-entry.serial told.names.items told.items.items none c.loop-entry.invariant;
      items = all-items m c.args.entries.now i c.loop-entry.serial told.names.items told.items.items none c.loop-entry.invariant;
    }
