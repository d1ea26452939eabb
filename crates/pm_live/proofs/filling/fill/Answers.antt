use Rattle.std.proofs.Common.{subst}
use Rattle.pm_live.specs.Packing.{FillsAs}
use Rattle.pm_live.proofs.Packed.{fills}
use Rattle.pm_live.proofs.filling.fill.Goals as goal

pub returns : goal.returns
returns g c =
    let seen = g.D.Disk.seen in
    let may_leave = g.D.Disk.may_leave in
    let is_clean = g.D.Disk.is_clean in
    let faults = g.D.Disk.faults in
    let house = c.args.house.now in
    let end = c.serve_kept-served.new.kept in
    let filling = c.judge-filling.result in
    subst (λ disk. FillsAs seen may_leave is_clean faults filling house disk end.journal.disk) c.new-kept.ensures.disk
    (fills seen may_leave is_clean g.D.Disk.is_usable faults filling house c.serve_kept-served.result c.new-kept.result end _ _ _ _ _ _
    c.judge-filling.ensures c.new-kept.ensures.up c.serve_kept-served.ensures.good c.serve_kept-served.ensures.run)
