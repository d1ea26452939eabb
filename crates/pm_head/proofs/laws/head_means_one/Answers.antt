use Rattle.pm_head.specs.Lines.{lines_of}
use Rattle.pm_head.proofs.OneHead.{head-apart, one-refusal, one-head}
use Rattle.pm_head.proofs.laws.head_means_one.Goals as goal

pub returns-clause-apart : goal.returns-clause-apart
returns-clause-apart c = λ form head refusal f g. head-apart form (lines_of c.args.input.now) head refusal f g

pub returns-clause-one_refusal : goal.returns-clause-one_refusal
returns-clause-one_refusal c = λ form refusal other f g. one-refusal form (lines_of c.args.input.now) refusal other f g

pub returns-clause-one_head : goal.returns-clause-one_head
returns-clause-one_head c = λ form head other f g. one-head form (lines_of c.args.input.now) head other f g
