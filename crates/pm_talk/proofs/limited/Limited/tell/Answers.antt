use Rattle.pm_talk.proofs.Limiting.{told-within}
use Rattle.pm_talk.proofs.limited.Limited.tell.Goals as goal

pub returns-clause-told : goal.returns-clause-told
returns-clause-told c = told-within c.tell_within.result c.args.self.now c.args.line.now c.tell_within.new.self c.tell_within.ensures.told
