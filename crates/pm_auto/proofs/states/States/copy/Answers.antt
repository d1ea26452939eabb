use Rattle.std.proofs.Common.{◌≡◌, ◌∙◌, sym, ap, map, List}
use Rattle.pm_auto.specs.declared.sets.PlaceSet.{PlaceSet}
use Rattle.pm_auto.specs.Ways.{states_of}
use Rattle.pm_auto.proofs.WayLaws.{same-states}
use Rattle.pm_auto.proofs.states.States.copy.Goals as goal

pub returns : goal.returns
returns c =
    same-states c.in_ok-expr.expr c.self.inside.expr c.in_ok-ways.ways c.in_ok-expr.ensures
    ∙ ap (states_of c.self.inside.expr) (c.in_ok-ways.ensures ∙ c.as_slice.ensures)
    ∙ c.self.view_is

pub invariant_of-result : goal.invariant_of-result
invariant_of-result c =
    let same : states_of c.in_ok-expr.expr c.in_ok-ways.ways ≡ states_of c.self.inside.expr c.self.inside.ways =
    same-states c.in_ok-expr.expr c.self.inside.expr c.in_ok-ways.ways c.in_ok-expr.ensures
    ∙ ap (states_of c.self.inside.expr) (c.in_ok-ways.ensures ∙ c.as_slice.ensures) in
    c.in_ok-ends.ensures ∙ c.as_slice-2.ensures ∙ c.self.invariant ∙ ap (λ (ss : List PlaceSet). map (λ (p : PlaceSet). p.ends) ss) (sym same)
