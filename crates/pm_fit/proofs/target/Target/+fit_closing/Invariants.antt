use Rattle.pm_fit.proofs.target.Target.+fit_closing.Given as goal

abbrev pub decreases-fit_closing : goal.decreases-fit_closing
decreases-fit_closing l = l.more
