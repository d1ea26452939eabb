use Rattle.std.proofs.Common.{◌≡◌, ◌++◌, drop, string_bytes, false}
use Rattle.pm_talk.specs.Live.{step_items}
use Rattle.pm_archive.proofs.writing.push_steps.Given as goal

abbrev pub invariant-loop-entry : goal.invariant-loop-entry
invariant-loop-entry l = string_bytes l.text ++ step_items l.later l.schema.spec (drop l.entry-index l.entries) ≡ string_bytes l.fn.text ++ step_items false l.schema.spec l.entries
