use Rattle.std.proofs.Common.{◌≡◌, ◌+◌, suc, subst, sym, arith}
use Rattle.pm_node.specs.Sizes.{Sizes}
use Rattle.pm_node.proofs.filled.sizes_within.Goals as goal

pub loop-level-preserved : goal.loop-level-preserved
loop-level-preserved c =
    let s = c.args.schema.now.spec in
    let fills = c.args.fills.now in
    let n = c.loop-level._level in
    let old : Sizes s fills n c.as_slice.result.now = subst (Sizes s fills n) (sym c.as_slice.ensures) c.loop-level.invariant in
    let new : Sizes s fills (suc n) c.in_ok-sizes-2.sizes = c.in_ok-sizes-2.ensures n old in
    let up : n + 1 ≡ suc n = omega arith in
    subst (λ j. Sizes s fills j c.in_ok-sizes-2.sizes) (sym up) new
