use Rattle.std.proofs.Common.{arith}
use Rattle.std.proofs.lemmas.List.{ext_get_or}
use Rattle.pm_units.proofs.narrow.narrow.Goals as goal

pub returns : goal.returns
returns c = ext_get_or 0 c.loop-i.bytes c.args.units.now c.loop-i.invariant.1 (λ j h. c.loop-i.invariant.0 j (omega arith))
