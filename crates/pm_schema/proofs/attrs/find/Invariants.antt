use Rattle.std.proofs.Common.{◌≡◌, drop}
use Rattle.pm_schema.specs.Attrs.{given_for, pairs_of}
use Rattle.pm_schema.proofs.attrs.find.Given as goal

abbrev pub invariant-loop-pair : goal.invariant-loop-pair
invariant-loop-pair l = given_for l.name (pairs_of l.given) ≡ given_for l.name (pairs_of (drop l.pair-index l.given))
