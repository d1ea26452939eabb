use Rattle.std.proofs.Common.{◌≡◌, ◌<◌, ◌++◌, ℕ, List, length}
use Rattle.pm_auto.specs.Walks.{accepted}
use Rattle.pm_tokens.specs.Scan.{part}
use Rattle.pm_node.specs.Kinds.{kinds}
use Rattle.pm_node.proofs.types.walk.Given as goal

abbrev pub invariant-loop-i : goal.invariant-loop-i
invariant-loop-i l =
    let ss = l.automaton.sets in
    let es = l.automaton.edges in
    (l.state < length ss) × ((w : List ℕ) → accepted ss es l.fn.state (kinds l.text (part l.fn.from l.to l.children) ++ w) ≡ accepted ss es l.state (kinds l.text (part l.i l.to l.children) ++ w))
