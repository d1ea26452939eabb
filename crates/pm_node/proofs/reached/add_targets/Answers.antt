use Rattle.std.proofs.Common.{◌≡◌, ◌<◌, ℕ, List, length, subst, arith}
use Rattle.std.specs.Prelude.{Some}
use Rattle.pm_auto.specs.declared.auto.Edge.{Edge}
use Rattle.pm_auto.specs.Walks.{target, edges_at}
use Rattle.pm_node.specs.Reached.{IsAmong}
use Rattle.pm_node.proofs.ReachedLaws.{kind_at, continue-same, continue-on, leads-more, all-edges}
use Rattle.pm_node.proofs.reached.add_targets.Goals as goal
use Rattle.pm_node.proofs.reached.add_targets.Goals.{in-Some+in_ok-add, in_default}

pub loop-edge-init : goal.loop-edge-init
loop-edge-init c = record { below = c.requires.below; on = continue-same c.args.found.now.items; leads = λ i l t e. absurd (omega (arith, l)) }

pub loop-edge-preserved : goal.loop-edge-preserved
loop-edge-preserved c =
    let a = c.args.automaton.now in
    let here = edges_at a.edges c.args.state in
    let es = c.edges-edge-items.result.now in
    let n = c.loop-edge.edge-index in
    let xs = c.loop-edge.found.items in
    let h = c.loop-edge.invariant in
    elim c.match-next.branch [
      | in-Some+in_ok-add w ↦
          let ys = w.add.new.found.items in
          let k = w.in_ok-add.ensures in
          rw w.found-is (record {
            below = k.below (length a.sets) w.in-Some.ensures.inside h.below;
            on = continue-on c.args.found.now.items xs ys h.on k.on;
            leads = leads-more es here xs ys n c.next.result c.next.ensures.edge h.leads k.on
                (λ t e. let i = w.in-Some.is in let P : ℕ → Type 0 = IsAmong ys in let s : w.in-Some.next ≡ t = cc in subst P s k.among);
          })
      | in_default w ↦
          rw w.found-is (record {
            below = h.below;
            on = h.on;
            leads = leads-more es here xs xs n c.next.result c.next.ensures.edge h.leads (continue-same xs) (λ t e. let i = w.in_default.is in absurd (cc));
          })
    ]

pub returns-clause-below : goal.returns-clause-below
returns-clause-below c = c.loop-edge.invariant.below

pub returns-clause-on : goal.returns-clause-on
returns-clause-on c = c.loop-edge.invariant.on

pub returns-clause-leads : goal.returns-clause-leads
returns-clause-leads c =
    let a = c.args.automaton.now in
    let xs = c.loop-edge.found.items in
    let P : List Edge → Type 0 = λ z. (i : ℕ) → i < length z → (t : ℕ) → target (kind_at z i) (edges_at a.edges c.args.state) ≡ Some t → IsAmong xs t in
    all-edges a.edges c.args.state xs (subst P c.edges-edge-items.ensures (λ i l. c.loop-edge.invariant.leads i (omega (arith, l, c.loop-edge-test.false))))
