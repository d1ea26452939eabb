use Rattle.std.proofs.Common.{◌≡◌, ◌<◌, length, drop}
use Rattle.pm_fit.specs.Wrappings.{state_after}
use Rattle.pm_fit.proofs.types.state_after.Given as goal

abbrev pub invariant-loop-kind : goal.invariant-loop-kind
invariant-loop-kind l =
    record {
      inside : l.state < length l.automaton.sets;
      leads : state_after l.automaton.edges 0 l.types ≡ state_after l.automaton.edges l.state (drop l.kind-index l.types);
    }
