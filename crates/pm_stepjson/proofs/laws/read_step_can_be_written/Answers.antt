use Rattle.serde_json.specs.View.{view}
use Rattle.pm_docjson.proofs.ReadAttrs.{known-defaults}
use Rattle.pm_docjson.proofs.ViewTexts.{view-texts}
use Rattle.pm_stepjson.proofs.ReadSteps.{step-back}
use Rattle.pm_stepjson.proofs.laws.read_step_can_be_written.Goals as goal

pub returns : goal.returns
returns c = λ shallow step read. step-back c.args.schema.now.spec (known-defaults c.args.schema.now shallow) c.texts_are_plain.ensures (view c.args.json.now) step (view-texts c.args.json.now) read
