use Rattle.std.proofs.Common.{ap, sym, ◌∙◌, length}
use Rattle.pm_sized.specs.Pairs.{pairs_of}
use Rattle.pm_node.proofs.ChunkLaws.{length-items}
use Rattle.pm_node.proofs.children.Children.len.Goals as goal

pub returns : goal.returns
returns c = c.len.ensures ∙ (sym (length-items (pairs_of c.self.inside.nodes.now)) ∙ ap length c.self.view_is)
