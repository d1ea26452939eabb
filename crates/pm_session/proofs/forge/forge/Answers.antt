use Rattle.std.proofs.Common.{◌+◌}
use Rattle.pm_session.proofs.Forging.{named-by}
use Rattle.pm_session.proofs.forge.forge.Goals as goal

pub present-requires-clause-named : goal.present-requires-clause-named
present-requires-clause-named g c = named-by c.args.name (c.args.serial.now + 1) c.args.steps.now c.in_ok-steps.steps c.in_ok-steps.ensures
