use Rattle.pm_node.proofs.node.Fragment.children.Goals as goal

pub new-requires : goal.new-requires
new-requires c = record { laid = c.self.invariant.laid; sized = c.self.invariant.sized }
