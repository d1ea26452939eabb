use Rattle.std.proofs.Common.{◌≡◌, sym, subst, length, List, ℕ, ◌↔◌, true, rules}
use Rattle.std.proofs.lemmas.Result.{IfOk-weaker, IfErr-weaker}
use Rattle.pm_auto.specs.declared.sets.PlaceSet.{PlaceSet}
use Rattle.pm_auto.specs.Lang.{In}
use Rattle.pm_auto.specs.Trim.{trimmed}
use Rattle.pm_auto.specs.Table.{rows}
use Rattle.pm_auto.specs.Types.{Is_mixed}
use Rattle.pm_auto.specs.Automata.{Is_automaton}
use Rattle.pm_auto.specs.Built.{Is_fault}
use Rattle.pm_auto.specs.Found.{Only_wide}
use Rattle.pm_auto.specs.States.{Below, start_of, Too_many}
use Rattle.pm_auto.specs.Walks.{accepted}
use Rattle.pm_auto.proofs.StateLaws.{order-below}
use Rattle.pm_auto.proofs.AcceptLaws.{fits-is, accepted-in}
use Rattle.pm_auto.proofs.FewLaws.{few-states}
use Rattle.pm_auto.proofs.SameAutomata.{rows-are, start-is, built-automaton, built-fault}
use Rattle.pm_auto.proofs.auto.Auto.build.Goals as goal

pub returns-then-has_type-2-clause-decides : goal.returns-then-has_type-2-clause-decides
returns-then-has_type-2-clause-decides c = fits-is c.args.expr.now

pub returns-then-width-gt-MAX_PLACES-clause-decides : goal.returns-then-width-gt-MAX_PLACES-clause-decides
returns-then-width-gt-MAX_PLACES-clause-decides c = fits-is c.args.expr.now

pub returns-in_err-part-clause-decides : goal.returns-in_err-part-clause-decides
returns-in_err-part-clause-decides c = fits-is c.args.expr.now

pub returns-in_err-places-clause-decides : goal.returns-in_err-places-clause-decides
returns-in_err-places-clause-decides c = fits-is c.args.expr.now

pub returns-clause-decides : goal.returns-clause-decides
returns-clause-decides c = fits-is c.args.expr.now

pub explore-requires-clause-rows : goal.explore-requires-clause-rows
explore-requires-clause-rows c =
    rows-are c.args.expr.now c.in_ok-part.part c.as_slice-rows.result.now c.as_slice.result.now c.in_ok-places.places c.in_ok-part.ensures c.as_slice-rows.ensures c.as_slice.ensures c.in_ok-places.ensures

pub explore-requires-clause-start : goal.explore-requires-clause-start
explore-requires-clause-start c =
    start-is c.args.expr.now c.in_ok-part.part c.as_slice-rows.result.now c.as_slice.result.now c.in_ok-places.places c.in_ok-part.ensures c.as_slice-rows.ensures c.as_slice.ensures c.in_ok-places.ensures

pub explore-requires-clause-below : goal.explore-requires-clause-below
explore-requires-clause-below c = subst (Below (length c.as_slice-rows.result.now)) (sym c.in_ok-places.ensures) (order-below c.as_slice.result.now c.as_slice-rows.result.now)

pub returns-clause-automaton : goal.returns-clause-automaton
returns-clause-automaton c =
    let start : PlaceSet = record { places = c.in_ok-places.places; ends = c.in_ok-part.part.may_be_empty } in
    IfOk-weaker c.explore.result (Is_automaton c.as_slice-rows.result.now start) (Is_automaton (rows 0 (trimmed c.args.expr.now)) (start_of (trimmed c.args.expr.now)))
    (built-automaton c.args.expr.now c.in_ok-part.part c.as_slice-rows.result.now c.as_slice.result.now c.in_ok-places.places c.in_ok-part.ensures c.as_slice-rows.ensures c.as_slice.ensures c.in_ok-places.ensures)
    c.explore.ensures.ok

pub returns-clause-language : goal.returns-clause-language
returns-clause-language c =
    let start : PlaceSet = record { places = c.in_ok-places.places; ends = c.in_ok-part.part.may_be_empty } in
    IfOk-weaker c.explore.result (Is_automaton c.as_slice-rows.result.now start) (λ a. (w : List ℕ) → (accepted a.sets a.edges 0 w ≡ true) ↔ In c.args.expr.now w)
    (λ a h w. accepted-in c.args.expr.now a (built-automaton c.args.expr.now c.in_ok-part.part c.as_slice-rows.result.now c.as_slice.result.now c.in_ok-places.places c.in_ok-part.ensures c.as_slice-rows.ensures c.as_slice.ensures c.in_ok-places.ensures a h) w)
    c.explore.ensures.ok

pub returns-clause-few : goal.returns-clause-few
returns-clause-few c =
    let start : PlaceSet = record { places = c.in_ok-places.places; ends = c.in_ok-part.part.may_be_empty } in
    IfOk-weaker c.explore.result (Is_automaton c.as_slice-rows.result.now start) (λ _. Too_many (rows 0 (trimmed c.args.expr.now)) (start_of (trimmed c.args.expr.now)) → ⊥)
    (λ a h. few-states (rows 0 (trimmed c.args.expr.now)) (start_of (trimmed c.args.expr.now)) a (built-automaton c.args.expr.now c.in_ok-part.part c.as_slice-rows.result.now c.as_slice.result.now c.in_ok-places.places c.in_ok-part.ensures c.as_slice-rows.ensures c.as_slice.ensures c.in_ok-places.ensures a h))
    c.explore.ensures.ok

pub returns-clause-fault : goal.returns-clause-fault
returns-clause-fault c =
    let start : PlaceSet = record { places = c.in_ok-places.places; ends = c.in_ok-part.part.may_be_empty } in
    let pure : Is_mixed c.args.expr.now c.args.inline.now → ⊥ = search rules in
    IfErr-weaker c.explore.result (Only_wide (Too_many c.as_slice-rows.result.now start)) (Is_fault c.args.expr.now c.args.inline.now)
    (built-fault c.args.expr.now c.in_ok-part.part c.as_slice-rows.result.now c.as_slice.result.now c.in_ok-places.places c.in_ok-part.ensures c.as_slice-rows.ensures c.as_slice.ensures c.in_ok-places.ensures c.args.inline.now pure)
    c.explore.ensures.err
