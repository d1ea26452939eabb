use Rattle.std.proofs.Common.{◌≡◌, ◌<◌, ◌+◌, ◌++◌, length, ap, sym, ◌∙◌, arith}
use Rattle.std.specs.Prelude.{None, Some}
use Rattle.std.specs.Arc.{arc_value}
use Rattle.pm_auto.specs.Walks.{accepted, target, edges_at}
use Rattle.pm_tokens.specs.Scan.{part}
use Rattle.pm_node.specs.Kinds.{kind_in, kinds}
use Rattle.pm_node.proofs.AutoWalk.{kinds-part, accepted-none, accepted-more}
use Rattle.pm_node.proofs.types.walk.Goals as goal

pub returns-in-None-clause-leads : goal.returns-in-None-clause-leads
returns-in-None-clause-leads c = λ w.
    let a = c.args.automaton.now in
    let text = c.args.text in
    let xs = c.args.children.now in
    let i = c.loop-i.i in
    let x = c.get.result.now in
    let within : i < length xs = omega (arith, c.loop-i-test.true, c.requires.within) in
    let k = c.kind_of-kind.ensures ∙ ap (kind_in text) c.deref.ensures in
    let stop : target (kind_in text (arc_value x)) (edges_at a.edges c.loop-i.state) ≡ None = ap (λ z. target z (edges_at a.edges c.loop-i.state)) (sym k) ∙ (sym c.next.ensures.edge ∙ c.in-None.is) in
    c.loop-i.invariant.1 w
    ∙ (ap (λ z. accepted a.sets a.edges c.loop-i.state (z ++ w)) (kinds-part text xs i c.args.to x c.loop-i-test.true within c.get.ensures)
    ∙ accepted-none a.sets a.edges c.loop-i.state (kind_in text (arc_value x)) (kinds text (part (i + 1) c.args.to xs) ++ w) stop)

pub loop-i-preserved : goal.loop-i-preserved
loop-i-preserved c =
    let a = c.args.automaton.now in
    let text = c.args.text in
    let xs = c.args.children.now in
    let i = c.loop-i.i in
    let x = c.get.result.now in
    let t = c.in-Some.next in
    let within : i < length xs = omega (arith, c.loop-i-test.true, c.requires.within) in
    let k = c.kind_of-kind.ensures ∙ ap (kind_in text) c.deref.ensures in
    let on : target (kind_in text (arc_value x)) (edges_at a.edges c.loop-i.state) ≡ Some t = ap (λ z. target z (edges_at a.edges c.loop-i.state)) (sym k) ∙ (sym c.next.ensures.edge ∙ c.in-Some.is) in (
      c.in-Some.ensures.inside,
      λ w.
          c.loop-i.invariant.1 w
          ∙ (ap (λ z. accepted a.sets a.edges c.loop-i.state (z ++ w)) (kinds-part text xs i c.args.to x c.loop-i-test.true within c.get.ensures)
          ∙ accepted-more a.sets a.edges c.loop-i.state (kind_in text (arc_value x)) t (kinds text (part (i + 1) c.args.to xs) ++ w) on),
    )
