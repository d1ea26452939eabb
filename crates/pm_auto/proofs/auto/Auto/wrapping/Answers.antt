use Rattle.std.proofs.Common.{◌≡◌, sym, subst, rules, List, length}
use Rattle.pm_auto.specs.declared.auto.Edge.{Edge}
use Rattle.pm_auto.specs.Graph.{Is_graph}
use Rattle.pm_auto.specs.Wraps.{wrap_links}
use Rattle.pm_auto.proofs.GraphLaws.{wrap-graph}
use Rattle.pm_auto.proofs.auto.Auto.wrapping.Goals as goal

pub search-requires-clause-graph : goal.search-requires-clause-graph
search-requires-clause-graph c =
    let e : c.as_slice.result.now ≡ wrap_links c.args.self.now c.args.state c.args.autos.now c.args.may_wrap.now = search rules in
    subst (λ (ess : List (List Edge)). Is_graph (length ess) ess) (sym e) (wrap-graph c.args.self.now c.args.state c.args.autos.now c.args.may_wrap.now)
