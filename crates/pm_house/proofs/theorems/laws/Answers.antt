use Rattle.pm_house.proofs.Running.{all-told, all-good}
use Rattle.pm_house.proofs.Alone.{all-alone}
use Rattle.pm_house.proofs.Faulting.{faults-change-nothing}
use Rattle.pm_house.proofs.theorems.laws.Goals as goal

pub returns : goal.returns
returns c = record { told = all-told; good = all-good; alone = all-alone; faulty = faults-change-nothing }
