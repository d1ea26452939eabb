use Rattle.pm_sized.proofs.SharingLaws.{GroupsCopied}
use Rattle.pm_sized.proofs.grouping.Groups+Arc+T+Global.copy.Given as goal

abbrev pub invariant-loop-part : goal.invariant-loop-part
invariant-loop-part g l = GroupsCopied l.made l.part-items l.part-index
