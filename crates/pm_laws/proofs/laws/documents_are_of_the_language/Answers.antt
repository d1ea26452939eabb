use Rattle.pm_laws.proofs.Languages.{valid-is, sessions-are}
use Rattle.pm_laws.proofs.laws.documents_are_of_the_language.Goals as goal

pub returns-clause-valid : goal.returns-clause-valid
returns-clause-valid c = λ d v. valid-is c.args.schema.now.spec d v

pub returns-clause-sessions : goal.returns-clause-sessions
returns-clause-sessions c = sessions-are c.args.input.now
