use Rattle.std.proofs.Common.{◌≡◌, ◌+◌, ◌++◌, ◌∙◌, ap, sym, subst, get_or, take, drop, Some, rules}
use Rattle.pm_history.specs.Turns.{IsPlaceOf, HaveLostNumbered}
use Rattle.pm_history.proofs.Taken.{lost-at}
use Rattle.pm_history.proofs.branch.Branch.take_numbered.Goals as goal

pub returns-in-Some : goal.returns-in-Some
returns-in-Some c =
    let es = c.args.self.now in
    let n = c.args.number in
    let v : c.self.inside.events.items ≡ es = search rules in
    let k = c.in-Some.place in
    let p : IsPlaceOf n es (Some k) = subst (λ xs. IsPlaceOf n xs (Some k)) (c.as_slice.ensures.value ∙ v) (subst (IsPlaceOf n c.as_slice.result.now) c.in-Some.is c.place_of.ensures) in
    let e = c.remove.result in
    subst (HaveLostNumbered n es (Some e)) (sym (c.remove.ensures.by_index.2 ∙ ap (λ xs. take k xs ++ drop (k + 1) xs) v))
    (lost-at n es k e p.0 (c.remove.ensures.value ∙ ap (λ xs. get_or xs k e) v) p.1 p.2)
