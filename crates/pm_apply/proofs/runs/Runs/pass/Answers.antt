use Rattle.pm_apply.proofs.TakenWalk.{on-both, passed}
use Rattle.pm_apply.proofs.runs.Runs.pass.Goals as goal

pub returns : goal.returns
returns c =
    on-both c.close.result (λ x y s ts n. passed s c.args.at c.args.count c.args.self.now c.close.new.self c.if-count-eq0.false x y ts n) c.close.ensures.steps c.close.ensures.run
