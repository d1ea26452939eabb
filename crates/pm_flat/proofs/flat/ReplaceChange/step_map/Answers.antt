use Rattle.std.proofs.Common.{arith}
use Rattle.pm_flat.proofs.flat.ReplaceChange.step_map.Goals as goal

pub new-requires : goal.new-requires
new-requires c =
    let w = c.requires.2 in
    (omega arith, omega (arith, c.from.ensures, c.from-2.ensures, w.0), omega (arith, c.from.ensures, c.len.ensures, w.0, w.1, w.2), tt)
