use Rattle.pm_resolve.proofs.SearchLaws.{few-most}
use Rattle.pm_resolve.proofs.walk.resolve_counted.Goals as goal

pub returns-clause-most : goal.returns-clause-most
returns-clause-most g c within = few-most c.args.doc.now c.args.pos c.top.result.now c.args.steps.now c.enter.new.steps c.top.ensures c.enter.ensures.steps

pub returns-in_err-enter-clause-most : goal.returns-in_err-enter-clause-most
returns-in_err-enter-clause-most g c within =
    few-most c.args.doc.now c.args.pos c.top.result.now c.args.steps.now c.enter.new.steps c.top.ensures c.enter.ensures.steps
