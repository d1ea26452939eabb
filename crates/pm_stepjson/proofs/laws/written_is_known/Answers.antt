use Rattle.pm_step.specs.Steps.{step_of}
use Rattle.pm_stepjson.proofs.KnownSteps.{step-known}
use Rattle.pm_stepjson.proofs.laws.written_is_known.Goals as goal

pub returns : goal.returns
returns c = step-known c.args.schema.now.spec (step_of c.args.step.now) c.has_slice.ensures
