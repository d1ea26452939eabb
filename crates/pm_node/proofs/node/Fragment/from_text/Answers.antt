use Rattle.std.proofs.Common.{arith, ap, length}
use Rattle.pm_node.specs.Trees.{node_tokens}
use Rattle.pm_node.proofs.TreeLaws.{length-text_tokens}
use Rattle.pm_node.proofs.node.Fragment.from_text.Goals as goal

pub push-requires : goal.push-requires
push-requires c =
    omega (arith, c.requires, ap length c.new-made.ensures, ap (λ m. length (node_tokens m)) c.in_ok-new.ensures.ok, length-text_tokens c.in_ok-copy.field-0 c.in_ok-copy-2.field-0, ap length c.in_ok-copy-2.ensures)
