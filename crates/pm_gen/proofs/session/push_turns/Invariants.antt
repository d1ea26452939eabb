use Rattle.std.proofs.Common.{◌≡◌, ◌-◌, ◌++◌, string_bytes}
use Rattle.pm_gen.specs.Session.{turn_lines}
use Rattle.pm_gen.proofs.session.push_turns.Given as goal

abbrev pub invariant-loop-i : goal.invariant-loop-i
invariant-loop-i l = string_bytes l.text ++ turn_lines l.clients l.i (l.count - l.i) l.draws.number ≡ string_bytes l.fn.text ++ turn_lines l.clients 0 l.count l.number
