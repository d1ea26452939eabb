use Rattle.pm_stepjson.proofs.Applied.{applied-storable}
use Rattle.pm_stepjson.proofs.laws.applied_can_be_written.Goals as goal

pub returns : goal.returns
returns c = applied-storable c.args.schema.now.spec
