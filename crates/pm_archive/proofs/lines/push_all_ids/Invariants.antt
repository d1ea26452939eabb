use Rattle.std.proofs.Common.{◌≡◌, ◌++◌, drop, string_bytes, false}
use Rattle.pm_archive.specs.Lines.{all_ids}
use Rattle.pm_archive.proofs.lines.push_all_ids.Given as goal

abbrev pub invariant-loop-i : goal.invariant-loop-i
invariant-loop-i l = string_bytes l.text ++ all_ids l.later (drop l.i l.ids) ≡ string_bytes l.fn.text ++ all_ids false l.ids
