use Rattle.std.proofs.Common.{subst, arith}
use Rattle.std.specs.declared.sync.Arc.{Arc}
use Rattle.std.specs.declared.alloc.Global.{Global}
use Rattle.pm_sized.specs.declared.chunks.Chunks.{Chunks}
use Rattle.pm_sized.specs.Parts.{IsBelow}
use Rattle.pm_sized.proofs.shared.Chunks+Arc+T+Global.put.Goals as goal

pub unreachable-requires : goal.unreachable-requires
unreachable-requires g c =
    let P : Chunks (Arc g.row.T.Denot Global) → Type 0 = IsBelow 0 in
    let none = subst P c.in-Few.is (c.in_ok-deepen.ensures.below 0 c.in_ok-widen.ensures.below) in
    absurd (omega (arith, none))
