use Rattle.pm_kept.proofs.LimitedAlike.{all-stand-alike, all-accepted-again, all-reopen}
use Rattle.pm_kept.proofs.theorems.laws.Goals as goal

pub returns : goal.returns
returns c = record { alike = all-stand-alike; accepted = all-accepted-again; reopens = all-reopen }
