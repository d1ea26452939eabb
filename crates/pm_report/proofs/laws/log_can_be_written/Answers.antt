use Rattle.pm_report.proofs.Stored.{log-storable}
use Rattle.pm_report.proofs.laws.log_can_be_written.Goals as goal

pub returns : goal.returns
returns c = log-storable c.args.schema.now
