use Rattle.serde_json.specs.View.{view}
use Rattle.pm_head.proofs.OneSchema.{schema-apart, schema-code}
use Rattle.pm_head.proofs.laws.schema_means_one.Goals as goal

pub returns-clause-apart : goal.returns-clause-apart
returns-clause-apart c = λ s code built fault. schema-apart (view c.args.json.now) s code built fault

pub returns-clause-one : goal.returns-clause-one
returns-clause-one c = λ code other f g. schema-code (view c.args.json.now) code other f g
