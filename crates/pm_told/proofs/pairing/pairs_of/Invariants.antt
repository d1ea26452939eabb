use Rattle.std.proofs.Common.{◌≡◌, ◌+◌, ◌≤◌, ◌++◌, drop, reverse, length}
use Rattle.pm_told.specs.Showing.{pairs_of, sum}
use Rattle.pm_told.proofs.pairing.pairs_of.Given as goal

abbrev pub invariant-loop-i : goal.invariant-loop-i
invariant-loop-i l = record {
  so_far : l.pairs.items ++ pairs_of (drop l.i l.pending) (drop l.i (reverse l.sizes)) (drop l.count l.kept) (l.first + l.count) ≡ pairs_of l.pending (reverse l.sizes) l.kept l.first;
  place_is : l.place ≡ sum (drop l.i (reverse l.sizes));
  within : l.count ≤ length l.kept;
}
