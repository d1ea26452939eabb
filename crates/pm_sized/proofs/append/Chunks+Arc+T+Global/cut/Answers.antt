use Rattle.std.proofs.Common.{ap, arith}
use Rattle.pm_sized.specs.Pairs.{pairs_of, total_of}
use Rattle.pm_sized.specs.Parts.{values_in, values_of}
use Rattle.pm_sized.proofs.PartLaws.{total-part, total-values}
use Rattle.pm_sized.proofs.FewLaws.{laid-bound}
use Rattle.pm_sized.proofs.append.Chunks+Arc+T+Global.cut.Goals as goal

pub append-requires-clause-room : goal.append-requires-clause-room
append-requires-clause-room g c =
    let s = c.args.self.now in
    let k = c.requires.laid in
    omega (arith, ap (λ z. total_of (values_in z)) c.new-made.ensures.pairs, total-part c.args.from c.args.to (values_of s), total-values (pairs_of s), laid-bound s k)
