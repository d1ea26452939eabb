use Rattle.pm_revert.proofs.Chains.{back-has-map}
use Rattle.pm_revert.proofs.taking.take_one.Goals as goal

pub step_map-requires : goal.step_map-requires
step_map-requires g c =
    let r = c.requires in
    back-has-map g.C.Change.means c.args.rules.now g.met.C.Change.laws c.args.so c.args.back.now r.0 r.1 r.2.0 r.2.1
