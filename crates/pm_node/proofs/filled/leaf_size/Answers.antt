use Rattle.std.proofs.Common.{ap, sym, ◌∙◌}
use Rattle.pm_node.specs.Sizes.{measured}
use Rattle.pm_node.proofs.FilledLaws.{filled-leaf, filled-none}
use Rattle.pm_node.proofs.filled.leaf_size.Goals as goal

pub returns-then-is_leaf : goal.returns-then-is_leaf
returns-then-is_leaf c = λ fills. sym (ap measured (filled-leaf c.args.schema.now.spec fills 0 c.args.kind (sym c.is_leaf.ensures ∙ c.if-is_leaf.true)))

pub returns-else-is_leaf : goal.returns-else-is_leaf
returns-else-is_leaf c = λ fills. sym (ap measured (filled-none c.args.schema.now.spec fills c.args.kind (sym c.is_leaf.ensures ∙ c.if-is_leaf.false)))
