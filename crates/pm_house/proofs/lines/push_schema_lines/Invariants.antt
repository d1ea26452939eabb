use Rattle.std.proofs.Common.{◌≡◌, ◌++◌, drop, string_bytes}
use Rattle.pm_house.specs.Lines.{schema_lines}
use Rattle.pm_house.proofs.lines.push_schema_lines.Given as goal

abbrev pub invariant-loop-kind : goal.invariant-loop-kind
invariant-loop-kind l = string_bytes l.text ++ schema_lines (drop l.kind-index l.kinds) ≡ string_bytes l.fn.text ++ schema_lines l.kinds
