use Rattle.pm_replace.proofs.known.+knows_opens.Given as goal

abbrev pub decreases-knows_opens : goal.decreases-knows_opens
decreases-knows_opens l = l.depth
