use Rattle.std.proofs.Common.{map}
use Rattle.pm_json.specs.Members.{members_of}
use Rattle.pm_json.proofs.Members.{pair_of_tree}
use Rattle.pm_json.proofs.Walks.{Leads}
use Rattle.pm_json.proofs.tree.ordered.Given as goal

abbrev pub invariant-loop-member : goal.invariant-loop-member
invariant-loop-member l = Leads l.members l.member-index (members_of (map pair_of_tree l.map.entries))
