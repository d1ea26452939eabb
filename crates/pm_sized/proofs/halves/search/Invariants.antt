use Rattle.std.proofs.Common.{◌-◌}
use Rattle.pm_sized.proofs.HalfLaws.{Among}
use Rattle.pm_sized.proofs.halves.search.Given as goal

abbrev pub invariant-loop-high : goal.invariant-loop-high
invariant-loop-high g l = Among l.starts l.pos l.low l.high l.fn.steps l.steps

abbrev pub decreases-loop-high : goal.decreases-loop-high
decreases-loop-high g l = l.high - l.low
