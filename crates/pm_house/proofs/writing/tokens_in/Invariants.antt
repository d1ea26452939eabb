use Rattle.std.proofs.Common.{◌≡◌, drop, length}
use Rattle.std.specs.Prelude.{fold}
use Rattle.pm_talk.specs.Work.{up_to}
use Rattle.pm_house.specs.Texts.{tokens_in}
use Rattle.pm_house.proofs.writing.tokens_in.Given as goal

abbrev pub invariant-loop-archive : goal.invariant-loop-archive
invariant-loop-archive l = fold (λ sum a. up_to sum (length a.doc.tokens)) l.sum (drop l.archive-index l.archives) ≡ tokens_in l.archives
