use Rattle.std.proofs.Common.{◌≡◌, drop, length}
use Rattle.std.specs.Prelude.{fold}
use Rattle.pm_talk.specs.Work.{up_to}
use Rattle.pm_house.specs.Texts.{entries_in}
use Rattle.pm_house.proofs.writing.entries_in.Given as goal

abbrev pub invariant-loop-archive : goal.invariant-loop-archive
invariant-loop-archive l = fold (λ sum a. up_to sum (length a.log)) l.sum (drop l.archive-index l.archives) ≡ entries_in l.archives
