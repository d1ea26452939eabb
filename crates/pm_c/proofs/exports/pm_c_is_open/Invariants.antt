-- The handle holds what the contract names.
use Rattle.pm_c.proofs.exports.pm_c_is_open.Given as goal

abbrev pub ghost-into_loose : goal.ghost-into_loose
ghost-into_loose g a = g.kept
