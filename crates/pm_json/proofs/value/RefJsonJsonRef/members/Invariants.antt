use Rattle.std.proofs.Common.{◌≡◌, ◌++◌, map}
use Rattle.pm_json.proofs.Members.{pair_of_ref, pair_of}
use Rattle.pm_json.proofs.value.RefJsonJsonRef.members.Given as goal

abbrev pub invariant-loop-key : goal.invariant-loop-key
invariant-loop-key l = map pair_of_ref l.refs.items ++ map pair_of l.key-iterator ≡ map pair_of l.initial.key-iterator
