use Rattle.std.proofs.Common.{◌<◌, ◌∙◌, ap, subst, arith, length}
use Rattle.pm_resolve.specs.Places.{Position}
use Rattle.pm_resolve.specs.Levels.{Path}
use Rattle.pm_node.specs.Documents.{doc_of}
use Rattle.pm_node.specs.Trees.{node_tokens}
use Rattle.pm_resolve.proofs.LevelLaws.{path-length, path-node, path-whole}
use Rattle.pm_resolve.proofs.place.Place.node.Goals as goal

pub index-requires : goal.index-requires
index-requires c =
    let p = subst (λ (v : Position). Path v.doc v.pos c.self.inside.levels.items) c.self.view_is c.self.invariant in
    omega (arith, c.requires, path-length p)

pub returns-clause-node : goal.returns-clause-node
returns-clause-node c =
    let p = subst (λ (v : Position). Path v.doc v.pos c.self.inside.levels.items) c.self.view_is c.self.invariant in
    let lt : c.args.d < length c.self.inside.levels.items = omega (arith, c.requires, path-length p) in
    ap (λ l. doc_of l.node.now) c.index.ensures ∙ path-node p c.args.d c.index.result.now lt

pub returns-clause-whole : goal.returns-clause-whole
returns-clause-whole c =
    let p = subst (λ (v : Position). Path v.doc v.pos c.self.inside.levels.items) c.self.view_is c.self.invariant in
    let lt : c.args.d < length c.self.inside.levels.items = omega (arith, c.requires, path-length p) in
    λ h. ap (λ l. node_tokens l.node.now) c.index.ensures ∙ path-whole p c.args.d c.index.result.now lt h
