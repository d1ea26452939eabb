use Rattle.std.proofs.Common.{◌≡◌, ◌<◌, drop, length}
use Rattle.pm_auto.specs.Walks.{accepted}
use Rattle.pm_node.specs.Kinds.{kinds}
use Rattle.pm_node.proofs.types.ends_alike.Given as goal

abbrev pub invariant-loop-i : goal.invariant-loop-i
invariant-loop-i l =
    let ss = l.automaton.sets in
    let es = l.automaton.edges in
    let all = kinds l.text (drop l.from l.children) in
    let rest = kinds l.text (drop l.i l.children) in
    (l.left < length ss) × (l.right < length ss) × (accepted ss es l.old all ≡ accepted ss es l.left rest) × (accepted ss es l.new all ≡ accepted ss es l.right rest)
