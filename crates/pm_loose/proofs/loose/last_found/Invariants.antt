use Rattle.std.proofs.Common.{◌≡◌, ◌<◌, ◌≤◌, length, ℕ, Some, get_or}
use Rattle.pm_auto.specs.declared.auto.Edge.{Edge}
use Rattle.pm_auto.specs.Walks.{target, edges_at}
use Rattle.pm_loose.proofs.loose.last_found.Given as goal

-- the edges so far lead up to `most`
abbrev pub invariant-loop-edge : goal.invariant-loop-edge
invariant-loop-edge l = record {
  more : l.last ≤ l.most;
  within : l.most < length l.auto'.sets;
  leads : (i : ℕ) (e : Edge) (t : ℕ) → i < l.edge-index → target (get_or l.edge-items i e).kind (edges_at l.auto'.edges l.state) ≡ Some t → t ≤ l.most;
}
