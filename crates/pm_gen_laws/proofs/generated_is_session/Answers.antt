use Rattle.pm_gen_laws.proofs.Whole.{generated-session, never-refused}
use Rattle.pm_gen_laws.proofs.generated_is_session.Goals as goal

pub returns-clause-session : goal.returns-clause-session
returns-clause-session c = generated-session c.args.clients c.args.rounds c.args.number c.requires

pub returns-clause-never_refused : goal.returns-clause-never_refused
returns-clause-never_refused c = λ refusal is. never-refused c.args.clients c.args.rounds c.args.number c.requires refusal is
