use Rattle.std.proofs.Common.{◌≡◌, ◌<◌, drop, length}
use Rattle.pm_auto.specs.Walks.{accepted}
use Rattle.pm_schema.specs.Documents.{documents_of}
use Rattle.pm_node.specs.Kinds.{kinds}
use Rattle.pm_node.proofs.rules.accepts.Given as goal

abbrev pub invariant-loop-i : goal.invariant-loop-i
invariant-loop-i l =
    let text = (documents_of l.schema.spec).text in
    (l.state < length l.automaton.sets) × (accepted l.automaton.sets l.automaton.edges 0 (kinds text l.children) ≡ accepted l.automaton.sets l.automaton.edges l.state (kinds text (drop l.i l.children)))
