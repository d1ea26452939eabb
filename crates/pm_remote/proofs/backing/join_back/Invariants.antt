use Rattle.std.proofs.Common.{◌≡◌}
use Rattle.pm_remote.specs.Backs.{joined, sizes_of}
use Rattle.pm_remote.proofs.backing.join_back.Given as goal

abbrev pub invariant-loop-undo : goal.invariant-loop-undo
invariant-loop-undo g l = record {
  steps : l.back.steps.items ≡ joined l.yielded;
  sizes : l.back.sizes.items ≡ sizes_of l.yielded;
}
