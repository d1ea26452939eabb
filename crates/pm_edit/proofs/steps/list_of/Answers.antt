use Rattle.pm_edit.proofs.AnswerLaws.{listed-is}
use Rattle.pm_edit.proofs.steps.list_of.Goals as goal

pub returns : goal.returns
returns c = listed-is c.args.step c.new-steps.result.items c.push.new.self.items c.new-steps.ensures.items c.in_ok-push.ensures.items
