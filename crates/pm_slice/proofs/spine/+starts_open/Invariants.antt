use Rattle.pm_slice.proofs.spine.+starts_open.Given as goal

abbrev pub decreases-starts_open : goal.decreases-starts_open
decreases-starts_open l = l.depth
