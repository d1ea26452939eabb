use Rattle.std.proofs.Common.{length, ap, arith}
use Rattle.pm_sized.specs.Parts.{values_of}
use Rattle.pm_sized.proofs.PartLaws.{length-values}
use Rattle.pm_sized.proofs.append.Chunks+Arc+T+Global.append_next.Goals as goal

pub append_one-requires-clause-within : goal.append_one-requires-clause-within
append_one-requires-clause-within g c = omega (arith, c.requires.some, c.requires.within, ap (λ z. length (values_of z)) c.in-Few.is, length-values c.in-Few.few.items.items)
