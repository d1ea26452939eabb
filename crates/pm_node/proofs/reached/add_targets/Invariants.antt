use Rattle.std.proofs.Common.{◌≡◌, ◌<◌, ℕ, length}
use Rattle.std.specs.Prelude.{Some}
use Rattle.pm_auto.specs.Walks.{target, edges_at}
use Rattle.pm_node.specs.Reached.{IsAmong, AreBelow, Continue}
use Rattle.pm_node.proofs.ReachedLaws.{kind_at}
use Rattle.pm_node.proofs.reached.add_targets.Given as goal

abbrev pub invariant-loop-edge : goal.invariant-loop-edge
invariant-loop-edge l = record {
  below : AreBelow (length l.automaton.sets) l.found.items;
  on : Continue l.fn.found.items l.found.items;
  leads : (i : ℕ) → i < l.edge-index → (t : ℕ) → target (kind_at l.edge-items i) (edges_at l.automaton.edges l.state) ≡ Some t → IsAmong l.found.items t;
}
