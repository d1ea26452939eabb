use Rattle.std.proofs.Common.{◌≡◌, ◌++◌, drop, string_bytes}
use Rattle.pm_call.specs.Running.{number_words}
use Rattle.pm_call.proofs.running.push_numbers.Given as goal

abbrev pub invariant-loop-line : goal.invariant-loop-line
invariant-loop-line l = string_bytes l.text ++ number_words (drop l.line-index l.lines) ≡ string_bytes l.fn.text ++ number_words l.lines
