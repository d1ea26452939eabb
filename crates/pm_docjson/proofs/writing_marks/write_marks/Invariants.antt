use Rattle.std.proofs.Common.{◌≡◌, map, take}
use Rattle.serde_json.specs.View.{view}
use Rattle.pm_docjson.specs.Writing.{mark_written}
use Rattle.pm_docjson.proofs.MarksAgain.{MarksIf}
use Rattle.pm_docjson.proofs.writing_marks.write_marks.Given as goal

abbrev pub invariant-loop-mark : goal.invariant-loop-mark
invariant-loop-mark l = (map view l.items.items ≡ map (mark_written l.schema.spec) (take l.mark-index l.marks)) × MarksIf l.schema.spec (take l.mark-index l.marks)
