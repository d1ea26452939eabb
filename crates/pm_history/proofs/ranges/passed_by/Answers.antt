use Rattle.std.proofs.Common.{◌≡◌, ◌<◌, ◌^◌, ◌∙◌, List, sym, subst, IfSome}
use Rattle.pm_map.specs.declared.side.Side.{Side}
use Rattle.pm_map.specs.declared.step_map.Span.{Span}
use Rattle.pm_map.specs.Moves.{moved, kept_at, AreInOrder}
use Rattle.pm_history.proofs.Smalls.{no-range-at, one-range-at, over-none}
use Rattle.pm_history.proofs.ranges.passed_by.Goals as goal

pub shifted-requires-clause-end : goal.shifted-requires-clause-end
shifted-requires-clause-end c =
    let same = one-range-at c.args.map.now c.in-Some-None.range (sym c.span.ensures ∙ c.in-Some-None.is-0) (sym c.span-2.ensures ∙ c.in-Some-None.is-1) in
    (subst (λ (rs : List Span). AreInOrder rs 0 0 0) (sym same) c.ordered.ensures).1

pub shifted-requires-clause-room : goal.shifted-requires-clause-room
shifted-requires-clause-room c =
    let same = one-range-at c.args.map.now c.in-Some-None.range (sym c.span.ensures ∙ c.in-Some-None.is-0) (sym c.span-2.ensures ∙ c.in-Some-None.is-1) in
    subst (λ (rs : List Span). (side : Side) × ((moved rs c.args.pos side).pos < 2 ^ 64)) (sym same) c.requires

pub returns-in-None-default : goal.returns-in-None-default
returns-in-None-default c = λ side.
    subst (λ (rs : List Span). moved rs c.args.pos side ≡ kept_at c.args.pos) (no-range-at c.args.map.now (sym c.span.ensures ∙ c.in-None-default.is-0)) (over-none c.args.pos side)

pub returns-in-Some-None : goal.returns-in-Some-None
returns-in-Some-None c =
    let same = one-range-at c.args.map.now c.in-Some-None.range (sym c.span.ensures ∙ c.in-Some-None.is-0) (sym c.span-2.ensures ∙ c.in-Some-None.is-1) in
    subst (λ (rs : List Span). IfSome c.shifted.result (λ p. (side : Side) → moved rs c.args.pos side ≡ kept_at p)) same c.shifted.ensures
