use Rattle.serde_json.specs.View.{view}
use Rattle.pm_docjson.proofs.ReadAttrs.{known-defaults}
use Rattle.pm_docjson.proofs.ViewTexts.{view-texts}
use Rattle.pm_slicejson.proofs.ReadSlices.{slice-read}
use Rattle.pm_slicejson.proofs.laws.read_slice_can_be_written.Goals as goal

pub returns : goal.returns
returns c = λ shallow sl read. slice-read c.args.schema.now.spec (known-defaults c.args.schema.now shallow) c.texts_are_plain.ensures (view c.args.json.now) sl (view-texts c.args.json.now) read
