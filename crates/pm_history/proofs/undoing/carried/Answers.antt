use Rattle.std.proofs.Common.{◌++◌, ap, sym}
use Rattle.pm_history.specs.Pairs.{paired}
use Rattle.pm_history.proofs.Leading.{pairs-fit}
use Rattle.pm_history.proofs.undoing.carried.Goals as goal

pub carry-requires : goal.carry-requires
carry-requires g c =
    let is = c.args.later.now ++ c.args.made.now in
    let r = c.requires in (
      paired is,
      r.0,
      r.1.0,
      (
        record { is = ap paired (sym c.in_ok-positions.ensures.items); paired_are = pairs-fit is; fits = r.1.1.0; told = c.in_ok-positions.ensures.told },
        r.1.1.1,
      ),
    )

pub returns : goal.returns
returns g c =
    let is = c.args.later.now ++ c.args.made.now in
    let r = c.requires in
    c.carry.ensures (paired is) r.0 r.1.0
    (record { is = ap paired (sym c.in_ok-positions.ensures.items); paired_are = pairs-fit is; fits = r.1.1.0; told = c.in_ok-positions.ensures.told }) r.1.1.1
