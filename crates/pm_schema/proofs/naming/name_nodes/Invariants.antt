use Rattle.std.proofs.Common.{◌≡◌, ◌++◌, take, drop}
use Rattle.pm_schema.specs.Types.{node_names, names_of_marks}
use Rattle.pm_schema.specs.Refusals.{repeats, has_double_name}
use Rattle.pm_schema.proofs.naming.name_nodes.Given as goal

abbrev pub invariant-loop-node : goal.invariant-loop-node
invariant-loop-node l =
    (l.names ≡ node_names (take l.node-index l.nodes)) × (has_double_name l.spec ≡ repeats l.names (node_names (drop l.node-index l.nodes) ++ names_of_marks l.spec))
