use Rattle.std.proofs.Common.{◌≡◌, ◌-◌, ◌∙◌, refl, length, arith}
use Rattle.pm_auto.specs.Near.{trail, first_to}
use Rattle.pm_auto.specs.Walks.{edges_at}
use Rattle.pm_auto.proofs.SearchLaws.{trail-step}
use Rattle.pm_auto.proofs.search.follow.Goals as goal

pub steps-preserved : goal.steps-preserved
steps-preserved c =
    let inv = c.steps.invariant in
    let e : c.first_to-link.result ≡ first_to c.index-rounds-left.result (edges_at c.args.links.now c.steps.node) = c.first_to-link.ensures ∙ rw (c.as_slice.ensures, c.links_of.ensures) refl in (
      omega arith,
      trail-step c.args.links.now c.args.rounds.now c.steps.left (c.steps.left - 1) c.steps.node c.index-rounds-left.result c.first_to-link.result c.steps.list
          (trail c.args.links.now c.args.rounds.now (length c.args.rounds.now) c.args.start) c.push.new.self
          c.steps-test.true refl (omega arith) c.index-rounds-left.is e inv.1 c.in_ok-push.ensures.ok,
    )
