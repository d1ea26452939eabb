use Rattle.std.proofs.Common.{◌≡◌, ◌-◌, ◌∙◌, ap, take, length, vec_len, rules}
use Rattle.pm_history.proofs.Events.{last-off}
use Rattle.pm_history.proofs.branch.Branch.drop_last.Goals as goal

pub returns : goal.returns
returns c =
    let es = c.args.self.now in
    let v : c.self.inside.events.items ≡ es = search rules in
    let n : vec_len c.self.inside.events ≡ length es = search rules in
    let k : c.saturating_sub-kept.result ≡ length es - 1 = c.saturating_sub-kept.ensures ∙ ap (λ j. j - 1) (c.len.ensures ∙ n) in
    c.truncate.ensures.items ∙ ap (take c.saturating_sub-kept.result) v ∙ ap (λ j. take j es) k ∙ last-off es
