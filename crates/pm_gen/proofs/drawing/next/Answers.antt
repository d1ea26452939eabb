use Rattle.std.proofs.Common.{◌*◌, ◌^◌}
use Rattle.std.proofs.Math.Nat.{mod-add-mod}
use Rattle.pm_gen.specs.Draws.{next}
use Rattle.pm_gen.proofs.drawing.next.Goals as goal

pub returns : goal.returns
unfolding next
returns c = mod-add-mod (c.args.number * 6364136223846793005) (2 ^ 64) 1442695040888963407
