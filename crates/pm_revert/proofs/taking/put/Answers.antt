use Rattle.std.proofs.Common.{sym, subst}
use Rattle.pm_map.specs.Moves.{inverted_ranges}
use Rattle.pm_map.specs.Through.{SameShape}
use Rattle.pm_map.proofs.Sizes.{same-shape}
use Rattle.pm_revert.proofs.taking.put.Goals as goal

pub enclose-requires : goal.enclose-requires
enclose-requires g c =
    let m = g.C.Change.means in
    let back = inverted_ranges (m.step_map c.args.back.now.change) in
    let same = same-shape (m.step_map c.args.back.now.change) (m.step_map c.args.change) (g.met.C.Change.laws.carried c.args.back.now.change c.args.change c.args.so.maps c.requires.carried) in
    subst (λ x. SameShape x c.step_map-behind.result) (sym c.requires.front) (subst (λ x. SameShape back x) (sym c.step_map-behind.ensures) same)
