use Rattle.std.proofs.Common.{sym}
use Rattle.pm_tokens.proofs.ForestLaws.{forest-kids, balanced-forest}
use Rattle.pm_node.proofs.laws.children_are_nodes.Goals as goal

pub returns-clause-nodes : goal.returns-clause-nodes
returns-clause-nodes c = balanced-forest c.args.text c.size.ensures.whole

pub returns-clause-one : goal.returns-clause-one
returns-clause-one c = λ kinds f. sym (forest-kids c.args.text f)
