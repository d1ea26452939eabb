use Rattle.std.proofs.Common.{◌∙◌, sym, ap, map, List}
use Rattle.pm_auto.specs.declared.sets.PlaceSet.{PlaceSet}
use Rattle.pm_auto.proofs.WayLaws.{same-states}
use Rattle.pm_auto.proofs.states.States.of.Goals as goal

pub invariant_of-result : goal.invariant_of-result
invariant_of-result c =
    c.in_ok-ends.ensures ∙ ap (λ (ss : List PlaceSet). map (λ (p : PlaceSet). p.ends) ss) (c.requires ∙ sym (same-states c.in_ok-expr.expr c.args.expr.now c.args.ways c.in_ok-expr.ensures))

pub returns : goal.returns
returns c = same-states c.in_ok-expr.expr c.args.expr.now c.args.ways c.in_ok-expr.ensures ∙ sym c.requires
