use Rattle.std.proofs.Common.{◌≡◌, ◌++◌, drop, map}
use Rattle.serde_json.specs.View.{view}
use Rattle.pm_json.proofs.value.RefJsonJsonRef.items.Given as goal

abbrev pub invariant-loop-item : goal.invariant-loop-item
invariant-loop-item l = map (λ r. view r.now) l.refs.items ++ map view (drop l.item-index l.item-items) ≡ map view l.item-items
