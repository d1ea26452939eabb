use Rattle.serde_json.specs.View.{view}
use Rattle.pm_docjson.proofs.ReadAttrs.{known-defaults}
use Rattle.pm_docjson.proofs.ReadLaws.{node-back}
use Rattle.pm_docjson.proofs.ViewTexts.{view-texts}
use Rattle.pm_docjson.proofs.laws.read_node_can_be_written.Goals as goal

pub returns : goal.returns
returns c = λ shallow. node-back c.args.schema.now.spec (known-defaults c.args.schema.now shallow) c.text_type.ensures.plain (view c.args.json.now) (view-texts c.args.json.now)
