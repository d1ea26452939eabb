use Rattle.std.proofs.Common.{◌≡◌, ◌≤◌, ◌-◌, [], length, drop}
use Rattle.std.specs.Prelude.{slice_range}
use Rattle.pm_expr.specs.Tokens.{tokens_from}
use Rattle.pm_expr.proofs.scan.run_end.Given as goal

abbrev pub invariant-loop-end : goal.invariant-loop-end
invariant-loop-end l = record {
  order : l.at ≤ l.end;
  within : l.end ≤ length l.text;
  same : tokens_from l.inside l.at [] (drop l.at l.text) ≡ tokens_from l.inside l.at (slice_range l.text l.at l.end) (drop l.end l.text);
}

abbrev pub decreases-loop-end : goal.decreases-loop-end
decreases-loop-end l = length l.text - l.end
