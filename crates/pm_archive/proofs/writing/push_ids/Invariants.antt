use Rattle.std.proofs.Common.{◌≡◌, ◌++◌, drop, string_bytes, false}
use Rattle.pm_talk.specs.Live.{id_items}
use Rattle.pm_archive.proofs.writing.push_ids.Given as goal

abbrev pub invariant-loop-entry : goal.invariant-loop-entry
invariant-loop-entry l = string_bytes l.text ++ id_items l.later l.ids (drop l.entry-index l.entries) ≡ string_bytes l.fn.text ++ id_items false l.ids l.entries
