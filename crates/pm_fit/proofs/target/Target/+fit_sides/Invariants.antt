use Rattle.pm_fit.proofs.target.Target.+fit_sides.Given as goal

abbrev pub decreases-fit_sides : goal.decreases-fit_sides
decreases-fit_sides l = l.open_start
