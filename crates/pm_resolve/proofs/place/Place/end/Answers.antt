use Rattle.std.proofs.Common.{◌+◌, ◌<◌, ◌∙◌, ap, subst, arith, length}
use Rattle.pm_resolve.specs.Places.{Position}
use Rattle.pm_resolve.specs.Levels.{Path, content_of}
use Rattle.pm_resolve.proofs.LevelLaws.{path-length, path-end, path-bound}
use Rattle.pm_resolve.proofs.place.Place.end.Goals as goal

pub index-requires : goal.index-requires
index-requires c =
    let p = subst (λ (v : Position). Path v.doc v.pos c.self.inside.levels.items) c.self.view_is c.self.invariant in
    omega (arith, c.requires, path-length p)

pub end-requires : goal.end-requires
end-requires c =
    let p = subst (λ (v : Position). Path v.doc v.pos c.self.inside.levels.items) c.self.view_is c.self.invariant in
    let lt : c.args.d < length c.self.inside.levels.items = omega (arith, c.requires, path-length p) in
    let e = ap (λ l. l.start + length (content_of l.node.now)) c.index.ensures in
    omega (arith, e, path-bound p c.args.d c.index.result.now lt, p.bound)

pub returns : goal.returns
returns c =
    let p = subst (λ (v : Position). Path v.doc v.pos c.self.inside.levels.items) c.self.view_is c.self.invariant in
    let lt : c.args.d < length c.self.inside.levels.items = omega (arith, c.requires, path-length p) in
    c.end.ensures ∙ (ap (λ l. l.start + length (content_of l.node.now)) c.index.ensures ∙ path-end p c.args.d c.index.result.now lt)
