use Rattle.std.proofs.Common.{subst, arith}
use Rattle.pm_resolve.specs.Places.{Position}
use Rattle.pm_resolve.specs.Levels.{Path}
use Rattle.pm_resolve.proofs.LevelLaws.{path-length}
use Rattle.pm_resolve.proofs.place.Place.depth.Goals as goal

pub returns : goal.returns
returns c =
    let p = subst (λ (v : Position). Path v.doc v.pos c.self.inside.levels.items) c.self.view_is c.self.invariant in
    omega (arith, c.len.ensures, path-length p)
