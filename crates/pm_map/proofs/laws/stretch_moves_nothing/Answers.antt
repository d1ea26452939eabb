use Rattle.pm_map.proofs.Stretches.{around}
use Rattle.pm_map.proofs.laws.stretch_moves_nothing.Goals as goal

pub returns : goal.returns
returns c = λ h k. around c.args.mapping.now c.args.map.now c.paired.ensures h k
