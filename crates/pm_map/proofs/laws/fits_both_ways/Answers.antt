use Rattle.std.proofs.Common.{arith}
use Rattle.pm_map.specs.Moves.{is_before}
use Rattle.pm_map.proofs.Rooms.{moved-fits, zero-sums}
use Rattle.pm_map.proofs.Sizes.{inverted-fits}
use Rattle.pm_map.proofs.laws.fits_both_ways.Goals as goal

pub returns : goal.returns
returns c = λ n k h. (
  λ p side l. moved-fits c.args.map.now 0 0 0 0 n k p (is_before side) (zero-sums c.args.map.now n k h) (omega arith) (omega arith) l,
  inverted-fits c.args.map.now n k h,
)
