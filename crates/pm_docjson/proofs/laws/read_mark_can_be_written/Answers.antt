use Rattle.serde_json.specs.View.{view}
use Rattle.pm_docjson.proofs.ReadAttrs.{mark-read, known-defaults}
use Rattle.pm_docjson.proofs.laws.read_mark_can_be_written.Goals as goal

pub returns : goal.returns
returns c = λ shallow m read. mark-read c.args.schema.now.spec (view c.args.json.now) m (known-defaults c.args.schema.now shallow) read
