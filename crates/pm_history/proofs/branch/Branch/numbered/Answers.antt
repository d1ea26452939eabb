use Rattle.std.proofs.Common.{◌≡◌, ◌+◌, ◌++◌, ◌∙◌, refl, ap, subst, get_or, take, drop, Some, rules}
use Rattle.pm_history.specs.Turns.{IsPlaceOf}
use Rattle.pm_history.proofs.Taken.{any-later, lost-at, lost-last}
use Rattle.pm_history.proofs.branch.Branch.numbered.Goals as goal

pub returns-in-Some-clause-value : goal.returns-in-Some-clause-value
returns-in-Some-clause-value c =
    let es = c.args.self.now in
    let n = c.args.number in
    let v : c.self.inside.events.items ≡ es = search rules in
    let k = c.in-Some.place in
    let p : IsPlaceOf n es (Some k) = subst (λ xs. IsPlaceOf n xs (Some k)) (c.as_slice.ensures.value ∙ v) (subst (IsPlaceOf n c.as_slice.result.now) c.in-Some.is c.place_of.ensures) in
    let e = c.index.result.now in
    lost-last n es (take k es ++ drop (k + 1) es) e (lost-at n es k e p.0 (c.index.ensures ∙ ap (λ xs. get_or xs k e) v) p.1 p.2)

pub returns-in-Some-clause-none : goal.returns-in-Some-clause-none
returns-in-Some-clause-none c =
    let es = c.args.self.now in
    let n = c.args.number in
    let v : c.self.inside.events.items ≡ es = search rules in
    let k = c.in-Some.place in
    let p : IsPlaceOf n es (Some k) = subst (λ xs. IsPlaceOf n xs (Some k)) (c.as_slice.ensures.value ∙ v) (subst (IsPlaceOf n c.as_slice.result.now) c.in-Some.is c.place_of.ensures) in
    (λ _. any-later n k es p.1, λ _. refl)
