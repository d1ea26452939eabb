use Rattle.pm_map.proofs.Stretches.{both}
use Rattle.pm_map.proofs.laws.both_move_nothing.Goals as goal

pub returns : goal.returns
returns c = λ h k. both c.args.first.now c.args.second.now c.paired.ensures h k
