use Rattle.std.proofs.Common.{◌-◌, ◌≤◌, ap, subst, length, arith}
use Rattle.pm_sized.specs.Pairs.{pairs_of, total_of}
use Rattle.pm_node.specs.Trees.{list_tokens}
use Rattle.pm_node.specs.Among.{Stands}
use Rattle.pm_node.proofs.ChunkLaws.{total-sized, stands-sized}
use Rattle.pm_node.proofs.children.Children.find.Goals as goal

pub locate-found-requires-clause-within : goal.locate-found-requires-clause-within
locate-found-requires-clause-within c =
    omega (arith, c.requires, total-sized (pairs_of c.self.inside.nodes.now) c.self.invariant.sized, ap (λ z. length (list_tokens z)) c.self.view_is)

pub returns : goal.returns
returns c =
    let ps = pairs_of c.self.inside.nodes.now in
    let pos = c.args.pos in
    let f = c.locate-found.result in
    let within : pos ≤ total_of ps = omega (arith, c.requires, total-sized ps c.self.invariant.sized, ap (λ z. length (list_tokens z)) c.self.view_is) in
    subst (λ z. Stands z pos f.index (pos - f.start)) c.self.view_is (stands-sized ps pos f.index f.start c.self.invariant.sized within c.locate-found.ensures)
