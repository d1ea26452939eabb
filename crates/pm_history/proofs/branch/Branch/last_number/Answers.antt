use Rattle.std.proofs.Common.{◌≡◌, ◌+◌, ◌∙◌, ap, get_or, length, vec_len, arith, rules}
use Rattle.pm_history.proofs.Events.{last-at}
use Rattle.pm_history.proofs.branch.Branch.last_number.Goals as goal

pub returns-in-Some : goal.returns-in-Some
returns-in-Some c =
    let es = c.args.self.now in
    let v : c.self.inside.events.items ≡ es = search rules in
    let n : vec_len c.self.inside.events ≡ length es = search rules in
    let k = c.in-Some.last in
    let e = c.index.result.now in
    let s = c.in-Some.ensures in
    let l : k + 1 ≡ length es = omega (arith, s.0, s.1, c.len.ensures, n) in
    last-at es k e l (c.index.ensures ∙ ap (λ xs. get_or xs k e) v)
