use Rattle.pm_archive.proofs.Accepting.{accepts, faults-change-nothing}
use Rattle.pm_archive.proofs.Keeping.{forgets-only-below}
use Rattle.pm_archive.proofs.Leaving.{revert-leaves}
use Rattle.pm_archive.proofs.theorems.laws.Goals as goal

pub returns : goal.returns
returns c = record { accepts = accepts; faulty = faults-change-nothing; forgets = forgets-only-below; leaves = revert-leaves }
