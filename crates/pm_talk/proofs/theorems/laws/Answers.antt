use Rattle.pm_talk.proofs.Hearing.{all-talks}
use Rattle.pm_talk.proofs.Opens.{all-opened}
use Rattle.pm_talk.proofs.Accepting.{accepts, faults-change-nothing}
use Rattle.pm_talk.proofs.theorems.laws.Goals as goal

pub returns : goal.returns
returns c = record { opened = all-opened; talks = all-talks; accepts = accepts; faulty = faults-change-nothing }
