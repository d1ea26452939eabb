use Rattle.std.proofs.Common.{arith, sym, subst}
use Rattle.pm_view.specs.Ahead.{AreFlat}
use Rattle.pm_view.proofs.AheadLaws.{start-fits, start-made}
use Rattle.pm_view.proofs.DepthLaws.{part-fits}
use Rattle.pm_view.proofs.slice_view.SliceView.tokens.Goals as goal

pub enter-requires : goal.enter-requires
enter-requires c =
    let v = c.self.inside in
    let i = c.self.invariant in
    let none = c.in_ok-outer.ensures.items in
    let fit = start-fits v.content.now v.from v.to c.depth_within-depth.result c.in_ok-outer.outer.items none (part-fits v.content.now v.from v.to c.depth_within-depth.result i.0 i.1 c.depth_within-depth.ensures.deep) in
    record { within = omega (arith, i.0, i.1); flat = subst AreFlat (sym none) tt; fit = omega (arith, fit, c.in_ok-outer.ensures.exact) }

pub returns : goal.returns
returns c =
    let v = c.self.inside in
    start-made v.content.now v.from v.to c.in_ok-outer.outer.items _ c.enter.result c.in_ok-outer.ensures.items c.self.view_is c.enter.ensures
