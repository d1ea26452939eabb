use Rattle.std.proofs.Common.{◌≡◌, ◌++◌, drop, map}
use Rattle.pm_json.proofs.Trees.{tree_data, ref_data}
use Rattle.pm_json.proofs.tree.TreeRefJsonRef.items.Given as goal

abbrev pub invariant-loop-tree : goal.invariant-loop-tree
invariant-loop-tree l = map ref_data l.refs.items ++ map tree_data (drop l.tree-index l.tree-items) ≡ map tree_data l.tree-items
