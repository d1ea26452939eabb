use Rattle.std.proofs.Common.{ap, ◌∙◌, length, get_or, arith}
use Rattle.pm_sized.specs.Pairs.{pairs_of}
use Rattle.pm_node.proofs.ChunkLaws.{length-items, item-of}
use Rattle.pm_node.proofs.children.Children.get.Goals as goal

pub item-requires-clause-within : goal.item-requires-clause-within
item-requires-clause-within c = omega (arith, c.requires, length-items (pairs_of c.self.inside.nodes.now), ap length c.self.view_is)

pub returns : goal.returns
returns c =
    let i = c.args.i in
    let x = c.item.result.now in
    c.item.ensures ∙ (item-of (pairs_of c.self.inside.nodes.now) i x ∙ ap (λ z. get_or z i x) c.self.view_is)
