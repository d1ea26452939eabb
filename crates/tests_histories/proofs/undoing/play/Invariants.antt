use Rattle.pm_history.specs.Shows.{ShowsTo}
use Rattle.pm_sheet.specs.Edits.{meaning}
use Rattle.tests_histories.proofs.undoing.play.Given as goal

abbrev pub invariant-loop-line : goal.invariant-loop-line
invariant-loop-line l = ShowsTo meaning l.rules l.played.items l.played.doc
