use Rattle.std.proofs.Common.{◌≡◌, ◌++◌, map}
use Rattle.pm_json.proofs.Members.{pair_of_tree}
use Rattle.pm_json.proofs.tree.TreeRefJsonRef.members.Given as goal

abbrev pub invariant-loop-key : goal.invariant-loop-key
invariant-loop-key l = map pair_of_tree l.refs.items ++ map pair_of_tree l.key-iterator ≡ map pair_of_tree l.initial.key-iterator
