use Rattle.std.proofs.Common.{◌≡◌, ◌++◌, drop, string_bytes, false, codes}
use Rattle.pm_told.specs.Texts.{change_items}
use Rattle.pm_told.proofs.writing.push_changes.Given as goal

abbrev pub invariant-loop-step : goal.invariant-loop-step
invariant-loop-step l = string_bytes l.text ++ change_items l.schema.spec l.later (drop l.step-index l.steps) ≡ (string_bytes l.fn.text ++ codes "[") ++ change_items l.schema.spec false l.steps
