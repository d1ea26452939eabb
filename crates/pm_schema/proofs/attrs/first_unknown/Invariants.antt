use Rattle.std.proofs.Common.{◌≡◌, ◌<◌, ℕ, false, get_or}
use Rattle.pm_schema.specs.Attrs.{no_pair, pairs_of, is_unknown}
use Rattle.pm_schema.proofs.attrs.first_unknown.Given as goal

abbrev pub invariant-loop-index : goal.invariant-loop-index
invariant-loop-index l = (j : ℕ) → j < l.index → is_unknown l.attrs (get_or (pairs_of l.given) j no_pair) ≡ false
