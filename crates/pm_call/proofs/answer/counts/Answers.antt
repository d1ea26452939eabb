use Rattle.std.proofs.Common.{append_assoc}
use Rattle.pm_call.proofs.answer.counts.Goals as goal

pub returns : goal.returns
returns c = simp append_assoc c.format.ensures.ok
