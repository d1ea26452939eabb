use Rattle.std.proofs.Common.{◌≡◌, ◌++◌, drop, string_bytes, false}
use Rattle.pm_archive.specs.Authoring.{run_items}
use Rattle.pm_archive.proofs.authoring.push_runs.Given as goal

abbrev pub invariant-loop-run : goal.invariant-loop-run
invariant-loop-run l = string_bytes l.text ++ run_items l.later l.ids (drop l.run-index l.runs) ≡ string_bytes l.fn.text ++ run_items false l.ids l.runs
