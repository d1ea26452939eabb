use Rattle.std.proofs.Common.{◌≡◌, ◌+◌, ◌-◌, ◌++◌, string_bytes}
use Rattle.pm_gen.specs.Session.{further_names}
use Rattle.pm_gen.proofs.session.push_further_names.Given as goal

abbrev pub invariant-loop-client : goal.invariant-loop-client
invariant-loop-client l = string_bytes l.text ++ further_names (l.client + 1) (l.clients - l.client) ≡ string_bytes l.fn.text ++ further_names 2 (l.clients - 1)
