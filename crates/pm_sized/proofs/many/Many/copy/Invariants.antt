use Rattle.pm_sized.proofs.CopyLaws.{Copied}
use Rattle.pm_sized.proofs.many.Many.copy.Given as goal

abbrev pub invariant-loop-chunk : goal.invariant-loop-chunk
invariant-loop-chunk g l = Copied l.made l.chunk-items l.chunk-index
