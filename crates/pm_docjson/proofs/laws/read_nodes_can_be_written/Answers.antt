use Rattle.serde_json.specs.View.{items_view}
use Rattle.pm_docjson.proofs.ReadAttrs.{known-defaults}
use Rattle.pm_docjson.proofs.ReadLaws.{nodes-writable}
use Rattle.pm_docjson.proofs.ViewTexts.{items-texts}
use Rattle.pm_docjson.proofs.laws.read_nodes_can_be_written.Goals as goal

pub returns : goal.returns
returns c = λ shallow. nodes-writable c.args.schema.now.spec (known-defaults c.args.schema.now shallow) c.text_type.ensures.plain (items_view c.args.items.now) (items-texts c.args.items.now)
