use Rattle.std.proofs.Common.{sym, drop}
use Rattle.pm_apply.proofs.HeadLaws.{marks-some, marks-none}
use Rattle.pm_apply.specs.Nodes.{node_head}
use Rattle.pm_apply.proofs.sides.node_marks_at.Goals as goal

pub returns-in-Some : goal.returns-in-Some
returns-in-Some c = sym (marks-some (drop c.args.pos c.args.content.now) (node_head c.in-Some.node.now) (sym c.in-Some.ensures))

pub returns-in-None : goal.returns-in-None
returns-in-None c = sym (marks-none (drop c.args.pos c.args.content.now) (sym c.in-None.ensures))
