use Rattle.std.proofs.Common.{◌≡◌, ◌∙◌, sym, ap, subst, ℕ, List, [], true, length}
use Rattle.std.proofs.lemmas.List.{length-map}
use Rattle.pm_auto.specs.declared.auto.Edge.{Edge}
use Rattle.pm_auto.specs.Graph.{Is_graph}
use Rattle.pm_auto.specs.Fills.{kept, makeable, filled}
use Rattle.pm_auto.proofs.GraphLaws.{kept-graph, length-fits}
use Rattle.pm_auto.proofs.ReachLaws.{finishes-ok}
use Rattle.pm_auto.proofs.auto.Auto.finishing.Goals as goal

pub reaching-requires-clause-graph : goal.reaching-requires-clause-graph
reaching-requires-clause-graph c =
    let e : c.as_slice-2.result.now ≡ makeable c.args.can.now c.args.self.now.edges = c.as_slice-2.ensures ∙ c.in_ok-links.ensures ∙ ap (λ (ess : List (List Edge)). makeable c.args.can.now ess) c.as_slice.ensures in
    let n : length (makeable c.args.can.now c.args.self.now.edges) ≡ length c.args.self.now.sets = length-map c.args.self.now.edges (kept c.args.can.now) ∙ c.args.self.now.full in
    subst (λ (ess : List (List Edge)). Is_graph (length ess) ess) (sym e)
    (subst (λ (i : ℕ). Is_graph i (makeable c.args.can.now c.args.self.now.edges)) (sym n) (kept-graph c.args.can.now (length c.args.self.now.sets) c.args.self.now.edges c.args.self.now.graph))

pub reaching-requires-clause-goals : goal.reaching-requires-clause-goals
reaching-requires-clause-goals c =
    let e : c.as_slice-2.result.now ≡ makeable c.args.can.now c.args.self.now.edges = c.as_slice-2.ensures ∙ c.in_ok-links.ensures ∙ ap (λ (ess : List (List Edge)). makeable c.args.can.now ess) c.as_slice.ensures in
    let n : length (makeable c.args.can.now c.args.self.now.edges) ≡ length c.args.self.now.sets = length-map c.args.self.now.edges (kept c.args.can.now) ∙ c.args.self.now.full in
    let g : c.as_slice-3.result.now ≡ filled c.args.self.now true [] = c.as_slice-3.ensures ∙ c.in_ok-goals.ensures in
    ap length g ∙ length-fits c.args.self.now.sets c.args.self.now.edges true [] 0 c.args.self.now.sets ∙ sym (ap length e ∙ n)

pub returns-clause-finish : goal.returns-clause-finish
returns-clause-finish c =
    let e : c.as_slice-2.result.now ≡ makeable c.args.can.now c.args.self.now.edges = c.as_slice-2.ensures ∙ c.in_ok-links.ensures ∙ ap (λ (ess : List (List Edge)). makeable c.args.can.now ess) c.as_slice.ensures in
    let g : c.as_slice-3.result.now ≡ filled c.args.self.now true [] = c.as_slice-3.ensures ∙ c.in_ok-goals.ensures in
    finishes-ok c.args.can.now c.args.self.now c.as_slice-2.result.now c.as_slice-3.result.now e g c.reaching.result c.reaching.ensures.reach
