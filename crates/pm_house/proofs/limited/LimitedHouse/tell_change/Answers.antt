use Rattle.pm_house.proofs.Limiting.{changed-within}
use Rattle.pm_house.proofs.limited.LimitedHouse.tell_change.Goals as goal

pub returns-clause-changed : goal.returns-clause-changed
returns-clause-changed c = changed-within c.tell_within.result c.args.self.now c.tell_within.new.self c.tell_within.ensures.changed
