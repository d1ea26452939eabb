use Rattle.std.proofs.Common.{◌≡◌, ◌+◌, ◌++◌, drop}
use Rattle.pm_talk.specs.Live.{named}
use Rattle.pm_archive.proofs.presenting.named.Given as goal

abbrev pub invariant-loop-i : goal.invariant-loop-i
invariant-loop-i l = l.all ++ named l.client (l.first + l.i) (drop l.i l.steps) ≡ named l.client l.first l.steps
