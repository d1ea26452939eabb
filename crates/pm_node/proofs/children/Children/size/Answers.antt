use Rattle.std.proofs.Common.{ap, ◌∙◌, length}
use Rattle.pm_sized.specs.Pairs.{pairs_of}
use Rattle.pm_node.specs.Trees.{list_tokens}
use Rattle.pm_node.proofs.ChunkLaws.{total-sized}
use Rattle.pm_node.proofs.children.Children.size.Goals as goal

pub returns : goal.returns
returns c = c.total.ensures ∙ (total-sized (pairs_of c.self.inside.nodes.now) c.self.invariant.sized ∙ ap (λ z. length (list_tokens z)) c.self.view_is)
