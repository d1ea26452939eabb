use Rattle.std.proofs.Common.{◌≡◌, drop}
use Rattle.pm_auto.specs.Fills.{fits_on}
use Rattle.pm_auto.proofs.fills.fits.Given as goal

abbrev pub invariant-loop-kind : goal.invariant-loop-kind
invariant-loop-kind l = fits_on l.sets l.edges l.to_end l.state l.after ≡ fits_on l.sets l.edges l.to_end l.now (drop l.kind-index l.after)
