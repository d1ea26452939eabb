use Rattle.std.proofs.Common.{length, ap, arith}
use Rattle.pm_sized.proofs.CopyLaws.{length-shared}
use Rattle.pm_sized.proofs.shared.Chunks+Arc+T+Global.deeper.Goals as goal

pub of-requires-clause-most : goal.of-requires-clause-most
of-requires-clause-most g c =
    let made = c.in_ok-copy-in-Many.field-0.chunks.items in
    let old = c.in-Many.many.chunks.items in
    omega (arith, c.if-len-ne-PART.false, c.len.ensures, c.in-Many.many.chunks.ok.0, ap length c.in_ok-copy-in-Many.ensures.chunks, length-shared made, length-shared old)
