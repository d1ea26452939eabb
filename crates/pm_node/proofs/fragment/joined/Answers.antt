use Rattle.pm_node.proofs.TreeLaws.{joined-tokens}
use Rattle.pm_node.proofs.fragment.joined.Goals as goal

pub returns-in_ok-append-in-Text-body : goal.returns-in_ok-append-in-Text-body
returns-in_ok-append-in-Text-body c = joined-tokens c.args.text c.args.next.now c.in-Text-body.units c.in-Text.more c.append.new.self c.requires c.in-Text-body.is c.in-Text.is c.in_ok-append-in-Text-body.ensures.ok
