use Rattle.std.proofs.Common.{◌≡◌, ◌++◌, drop, string_bytes, false}
use Rattle.serde_json.specs.Written.{items_text}
use Rattle.pm_report.specs.Words.{number_items}
use Rattle.pm_report.proofs.written.push_items.Given as goal

abbrev pub invariant-loop-number : goal.invariant-loop-number
invariant-loop-number l = string_bytes l.text ++ items_text l.later (number_items (drop l.number-index l.numbers)) ≡ string_bytes l.fn.text ++ items_text false (number_items l.numbers)
