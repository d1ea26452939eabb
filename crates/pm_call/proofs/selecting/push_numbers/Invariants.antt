use Rattle.std.proofs.Common.{◌≡◌, ◌++◌, drop, string_bytes}
use Rattle.pm_call.specs.Selecting.{words_of}
use Rattle.pm_call.proofs.selecting.push_numbers.Given as goal

abbrev pub invariant-loop-number : goal.invariant-loop-number
invariant-loop-number l = string_bytes l.text ++ words_of (drop l.number-index l.numbers) ≡ string_bytes l.fn.text ++ words_of l.numbers
