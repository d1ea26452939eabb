use Rattle.std.proofs.Common.{◌≡◌, ◌++◌, drop, string_bytes, false}
use Rattle.pm_house.specs.Texts.{row_items}
use Rattle.pm_house.proofs.writing.push_rows.Given as goal

abbrev pub invariant-loop-archive : goal.invariant-loop-archive
invariant-loop-archive l = string_bytes l.text ++ row_items l.later (drop l.archive-index l.archives) ≡ string_bytes l.fn.text ++ row_items false l.archives
