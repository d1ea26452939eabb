use Rattle.pm_map.proofs.Growths.{paired-append}
use Rattle.pm_map.proofs.mapping.Mapping.push.Goals as goal

pub invariant_of-self-2 : goal.invariant_of-self-2
invariant_of-self-2 c = rw c.in_ok-push.ensures.items (paired-append _ _ c.self.invariant (tt, tt))
