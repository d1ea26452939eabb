use Rattle.std.proofs.Common.{◌<◌, ◌∙◌, ap, subst, arith, length}
use Rattle.pm_resolve.specs.Places.{Position}
use Rattle.pm_resolve.specs.Levels.{Path}
use Rattle.pm_resolve.proofs.LevelLaws.{path-length, path-start}
use Rattle.pm_resolve.proofs.place.Place.start.Goals as goal

pub index-requires : goal.index-requires
index-requires c =
    let p = subst (λ (v : Position). Path v.doc v.pos c.self.inside.levels.items) c.self.view_is c.self.invariant in
    omega (arith, c.requires, path-length p)

pub returns : goal.returns
returns c =
    let p = subst (λ (v : Position). Path v.doc v.pos c.self.inside.levels.items) c.self.view_is c.self.invariant in
    let lt : c.args.d < length c.self.inside.levels.items = omega (arith, c.requires, path-length p) in
    ap (λ l. l.start) c.index.ensures ∙ path-start p c.args.d c.index.result.now lt
