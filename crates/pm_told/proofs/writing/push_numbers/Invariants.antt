use Rattle.std.proofs.Common.{◌≡◌, ◌++◌, drop, string_bytes, false, codes}
use Rattle.pm_told.specs.Texts.{number_items}
use Rattle.pm_told.proofs.writing.push_numbers.Given as goal

abbrev pub invariant-loop-number : goal.invariant-loop-number
invariant-loop-number l = string_bytes l.text ++ number_items l.later (drop l.number-index l.numbers) ≡ (string_bytes l.fn.text ++ codes "[") ++ number_items false l.numbers
