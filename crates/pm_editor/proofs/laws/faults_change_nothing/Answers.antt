use Rattle.pm_editor.proofs.Faulting.{faults-change-nothing}
use Rattle.pm_editor.proofs.laws.faults_change_nothing.Goals as goal

pub returns : goal.returns
returns c = faults-change-nothing
