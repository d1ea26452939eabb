use Rattle.std.specs.Prelude.{[]}
use Rattle.pm_map.proofs.Stretches.{around, nothing}
use Rattle.pm_map.proofs.Starts.{after-marks}
use Rattle.pm_map.proofs.laws.pair_moves_nothing.Goals as goal

pub returns-clause-still : goal.returns-clause-still
returns-clause-still c = λ h. around [] c.args.map.now tt nothing h

pub returns-clause-after : goal.returns-clause-after
returns-clause-after c = λ h p. after-marks c.args.map.now p h
