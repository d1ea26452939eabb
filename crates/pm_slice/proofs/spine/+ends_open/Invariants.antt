use Rattle.pm_slice.proofs.spine.+ends_open.Given as goal

abbrev pub decreases-ends_open : goal.decreases-ends_open
decreases-ends_open l = l.depth
