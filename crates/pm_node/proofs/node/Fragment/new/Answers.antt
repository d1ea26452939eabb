use Rattle.std.proofs.Common.{ap}
use Rattle.pm_sized.specs.Parts.{items_in}
use Rattle.pm_node.specs.Trees.{list_tokens}
use Rattle.pm_node.proofs.ChunkLaws.{kept-none}
use Rattle.pm_node.proofs.node.Fragment.new.Goals as goal

pub invariant_of-result : goal.invariant_of-result
invariant_of-result c = kept-none c.new.result c.new.ensures.laid c.new.ensures.pairs

pub returns : goal.returns
returns c = ap (λ z. list_tokens (items_in z)) c.new.ensures.pairs
