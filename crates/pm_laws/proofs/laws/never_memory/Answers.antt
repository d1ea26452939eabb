use Rattle.pm_laws.proofs.Memory.{never-memory}
use Rattle.pm_laws.proofs.laws.never_memory.Goals as goal

pub returns : goal.returns
returns c = never-memory c.args.schema.now.spec
