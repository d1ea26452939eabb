use Rattle.std.proofs.Common.{◌≡◌, ◌∙◌, sym, refl, true, false}
use Rattle.pm_auto.proofs.ShareLaws.{shares, shares-some, some-shares, shares-now, shares-end}
use Rattle.pm_auto.proofs.edges.share_type.Goals as goal

pub returns-then-has_edge : goal.returns-then-has_edge
returns-then-has_edge c =
    (λ _. shares-some c.args.b.now c.args.a.now (c.loop-edge.invariant ∙ shares-now c.args.b.now c.args.a.now c.loop-edge.edge-index record { kind = 0; to = 0 } c.loop-edge-test.true (sym c.has_edge.ensures ∙ c.if-has_edge.true)), λ _. refl)

pub returns : goal.returns
returns c =
    let f : shares c.args.b.now c.args.a.now ≡ false = c.loop-edge.invariant ∙ shares-end c.args.b.now c.args.a.now c.loop-edge.edge-index c.loop-edge-test.false in
    (λ (h : false ≡ true). absurd (cc), λ s. let t : true ≡ false = sym (some-shares c.args.b.now c.args.a.now s.0 s.1 s.2) ∙ f in absurd (cc))
