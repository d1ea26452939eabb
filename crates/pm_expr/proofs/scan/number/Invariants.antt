use Rattle.std.proofs.Common.{◌≡◌, ◌≤◌, drop}
use Rattle.pm_expr.specs.Tokens.{number_of, number_from}
use Rattle.pm_expr.proofs.scan.number.Given as goal

abbrev pub invariant-loop-digit : goal.invariant-loop-digit
invariant-loop-digit l = record {
  small : l.value ≤ 65;
  same : number_of l.digits ≡ number_from l.value (drop l.digit-index l.digits);
}
