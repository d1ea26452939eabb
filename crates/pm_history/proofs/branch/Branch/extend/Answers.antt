use Rattle.std.proofs.Common.{◌≡◌, ◌+◌, ◌-◌, ◌++◌, ◌∙◌, ap, get_or, set, length, vec_len, arith, rules}
use Rattle.pm_history.specs.Histories.{event_of, extended}
use Rattle.pm_history.proofs.Events.{extended-at, on-ok}
use Rattle.pm_history.proofs.branch.Branch.extend.Goals as goal

pub returns-clause-ok : goal.returns-clause-ok
returns-clause-ok c =
    let es = c.args.self.now in
    let v : c.self.inside.events.items ≡ es = search rules in
    let n : vec_len c.self.inside.events ≡ length es = search rules in
    let k = c.len-last.result - 1 in
    let e = c.index_mut.result.now in
    let l : k + 1 ≡ length es = omega (arith, c.len-last.ensures, n, c.requires) in
    on-ok c.append.result (c.append.new.self ≡ e.names ++ c.args.names)
    (set c.self.inside.events.items k (event_of e.number c.append.new.self) ≡ extended es c.args.names)
    (λ h. ap (λ xs. set xs k (event_of e.number c.append.new.self)) v
    ∙ extended-at es k e c.args.names c.append.new.self l (c.index_mut.ensures.value ∙ ap (λ xs. get_or xs k e) v) h) c.append.ensures.ok
