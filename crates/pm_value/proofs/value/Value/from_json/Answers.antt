use Rattle.serde_json.specs.View.{view}
use Rattle.pm_value.proofs.Shallow.{result-shallow}
use Rattle.pm_value.proofs.value.Value.from_json.Goals as goal

pub returns-clause-shallow : goal.returns-clause-shallow
returns-clause-shallow c = result-shallow (view c.args.json.now) c.value_at.result c.value_at.ensures.read
