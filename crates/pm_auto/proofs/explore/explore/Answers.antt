use Rattle.std.proofs.Common.{◌≡◌, ◌<◌, ◌≤◌, ◌∙◌, sym, ap, subst, length, length-append, [], ◌∷◌, arith, ℕ}
use Rattle.pm_auto.specs.Graph.{Is_graph}
use Rattle.pm_auto.specs.States.{All_edges, Edges_of, set_at}
use Rattle.pm_auto.proofs.WayLaws.{found-states}
use Rattle.pm_auto.proofs.GraphLaws.{edges-graph}
use Rattle.pm_auto.proofs.StateLaws.{grows-at, grows-length, edges-more}
use Rattle.pm_auto.proofs.explore.explore.Goals as goal

pub states-preserved : goal.states-preserved
states-preserved c =
    let inv = c.states.invariant in
    let g = c.in_ok-next.ensures.grows in
    let l : length c.states.edges < length c.states.sets = omega (arith, c.states-test.true, c.len.ensures, c.len-in-states.ensures) in
    let n = grows-length c.states.sets c.edges_of.new.sets g in (
      c.in_ok-next.ensures.found,
      grows-at c.states.sets c.edges_of.new.sets 0 g (omega (arith, l)) ∙ inv.1,
      subst (All_edges c.args.rows.now c.edges_of.new.sets c.edges_of.new.sets) (sym c.in_ok-push-3.ensures.ok)
          (edges-more c.args.rows.now c.states.sets c.edges_of.new.sets c.states.edges c.in_ok-next.next g l inv.2
          (subst (λ (i : ℕ). Edges_of c.args.rows.now c.edges_of.new.sets (set_at c.states.sets i) c.in_ok-next.next) c.len-at.ensures c.in_ok-next.ensures.edges)),
      rw c.in_ok-push-3.ensures.ok (rw (length-append c.states.edges (c.in_ok-next.next ∷ [])) (omega (arith, l, n))),
      c.in_ok-next.ensures.known,
      c.in_ok-next.ensures.prints,
      c.in_ok-next.ensures.ways,
    )

pub invariant_of-result : goal.invariant_of-result
invariant_of-result c =
    let inv = c.states.invariant in
    let l : length c.states.sets ≤ length c.states.edges = omega (arith, c.states-test.false, c.len.ensures, c.len-in-states.ensures) in
    let same : c.in_ok-sets.sets ≡ c.states.sets = c.in_ok-sets.ensures ∙ c.as_slice-2.ensures in
    let long : length c.in_ok-sets.sets ≡ length c.states.sets = ap length same in
    record {
      some = let some = inv.0.some in omega (arith, long, some);
      full = omega (arith, l, long, inv.3);
      graph = subst (λ (n : ℕ). Is_graph n c.states.edges) (sym long) (edges-graph c.args.rows.now c.states.sets c.states.sets c.states.edges inv.2);
    }

pub of-requires : goal.of-requires
of-requires c =
    let inv = c.states.invariant in
    c.as_slice-2.ensures ∙ found-states c.args.expr.now c.args.rows.now c.args.start c.states.sets c.states.ways c.requires.rows c.requires.start inv.1 inv.6
