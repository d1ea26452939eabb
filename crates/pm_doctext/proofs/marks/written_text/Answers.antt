use Rattle.serde_json.specs.View.{view}
use Rattle.pm_docjson.specs.Writing.{mark_written}
use Rattle.pm_docjson.proofs.NoFloat.{mark-whole}
use Rattle.pm_docjson.proofs.WholeTexts.{text-is}
use Rattle.pm_doctext.proofs.marks.written_text.Goals as goal

pub returns : goal.returns
returns c =
    let s = c.args.schema.now.spec in
    let m = c.args.mark.now in
    text-is (view c.in_ok-value.value) (mark_written s m) c.to_string.result c.in_ok-value.ensures.written (mark-whole s m) c.to_string.ensures.text
