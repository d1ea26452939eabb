use Rattle.std.proofs.Common.{◌-◌, ◌≤◌, drop, get_or, length, arith}
use Rattle.pm_change.specs.declared.name.Name.{Name}
use Rattle.pm_history.proofs.Steps.{drop-before, event-next, named-shows}
use Rattle.pm_history.proofs.undoing.undo_from.Goals as goal

pub loop-i-preserved : goal.loop-i-preserved
loop-i-preserved g c =
    let m = g.C.Change.means in
    let rules = c.args.rules.now in
    let i = c.loop-i.i in
    let none : Name = record { client = 0; serial = 0 } in
    let n : Name = get_or c.args.names.now (i - 1) none in
    let known = c.loop-i.invariant in
    let below : i ≤ length c.args.names.now = known.within in
    record {
      within = omega (arith, below);
      shows = named-shows m rules c.args.client n c.args.items.now c.loop-i.undone c.in_ok-undone.undone known.shows c.in_ok-undone.ensures;
      same = event-next m rules c.args.client n (drop i c.args.names.now) (drop (i - 1) c.args.names.now) c.args.items.now c.args.doc c.args.serial c.loop-i.undone c.in_ok-undone.undone
          (drop-before c.args.names.now i none c.loop-i-test.true below) known.same c.in_ok-undone.ensures;
    }
