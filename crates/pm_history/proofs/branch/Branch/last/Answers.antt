use Rattle.std.proofs.Common.{◌≡◌, ◌+◌, ◌∙◌, refl, ap, sym, subst, get_or, length, vec_len, arith, rules}
use Rattle.std.specs.Option.{IsSome}
use Rattle.pm_history.proofs.Events.{event-at}
use Rattle.pm_history.proofs.branch.Branch.last.Goals as goal

pub returns-in-Some-clause-value : goal.returns-in-Some-clause-value
returns-in-Some-clause-value c =
    let es = c.args.self.now in
    let v : c.self.inside.events.items ≡ es = search rules in
    let n : vec_len c.self.inside.events ≡ length es = search rules in
    let k = c.in-Some.last in
    let e = c.index.result.now in
    let s = c.in-Some.ensures in
    let l : k + 1 ≡ length es = omega (arith, s.0, s.1, c.len.ensures, n) in
    event-at es k e l (c.index.ensures ∙ ap (λ xs. get_or xs k e) v)

pub returns-in-Some-clause-none : goal.returns-in-Some-clause-none
returns-in-Some-clause-none c = (λ _. subst IsSome (sym (returns-in-Some-clause-value c)) refl, λ _. refl)
