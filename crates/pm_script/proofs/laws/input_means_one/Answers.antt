use Rattle.pm_script.proofs.OneSession.{session-apart, one-refusal, one-session}
use Rattle.pm_script.proofs.laws.input_means_one.Goals as goal

pub returns-clause-apart : goal.returns-clause-apart
returns-clause-apart c = λ form s refusal f g. session-apart form c.args.input.now s refusal f g

pub returns-clause-one_refusal : goal.returns-clause-one_refusal
returns-clause-one_refusal c = λ form refusal other f g. one-refusal form c.args.input.now refusal other f g

pub returns-clause-one_session : goal.returns-clause-one_session
returns-clause-one_session c = λ form s t f g. one-session form c.args.input.now s t f g
