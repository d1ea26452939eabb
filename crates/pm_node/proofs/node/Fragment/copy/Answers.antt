use Rattle.std.proofs.Common.{◌∙◌}
use Rattle.pm_sized.specs.Pairs.{pairs_of}
use Rattle.pm_node.proofs.ChunkLaws.{tokens-along, kept-values}
use Rattle.pm_node.proofs.node.Fragment.copy.Goals as goal

pub invariant_of-result : goal.invariant_of-result
invariant_of-result c = kept-values c.self.inside.nodes c.in_ok-copy.field-0 c.self.invariant c.in_ok-copy.ensures.laid c.in_ok-copy.ensures.values

pub returns : goal.returns
returns c = tokens-along (pairs_of c.in_ok-copy.field-0) (pairs_of c.self.inside.nodes) c.in_ok-copy.ensures.values ∙ c.self.view_is
