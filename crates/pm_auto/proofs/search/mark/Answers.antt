use Rattle.std.proofs.Common.{◌≡◌, ◌∙◌, sym, ap, true}
use Rattle.pm_auto.specs.Near.{one_to}
use Rattle.pm_auto.specs.Walks.{edges_at}
use Rattle.pm_auto.proofs.ReachLaws.{set-keeps, set-reaches}
use Rattle.pm_auto.proofs.search.mark.Goals as goal

pub returns-clause-keeps : goal.returns-clause-keeps
returns-clause-keeps c = set-keeps c.args.marks.now.items c.args.node

pub returns-clause-reach : goal.returns-clause-reach
returns-clause-reach c = λ goals g h.
    let hit : one_to c.args.marks.now.items (edges_at c.args.links.now c.args.node) ≡ true =
    ap (λ m. one_to m (edges_at c.args.links.now c.args.node)) (sym c.as_slice.ensures.value) ∙ ap (λ es. one_to c.as_slice.result.now es) (sym c.links_of.ensures) ∙ sym c.one_to.ensures ∙ c.if-not-one_to.false in
    set-reaches c.args.links.now goals g c.args.marks.now.items c.args.node hit h
