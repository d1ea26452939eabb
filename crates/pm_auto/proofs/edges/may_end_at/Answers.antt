use Rattle.std.proofs.Common.{◌≤◌, ◌∙◌, sym, ap, false, List, Bool, length, get_or, arith}
use Rattle.std.proofs.lemmas.List.{get_or_past}
use Rattle.pm_auto.proofs.WayLaws.{ends-at}
use Rattle.pm_auto.proofs.edges.may_end_at.Goals as goal

pub returns-then-state-ends : goal.returns-then-state-ends
returns-then-state-ends c =
    ap (λ (bs : List Bool). get_or bs c.args.state false) c.ends-ends.ensures ∙ ends-at c.args.sets.now c.args.state

pub returns-else-state-ends : goal.returns-else-state-ends
returns-else-state-ends c =
    let past : length c.ends-ends.result.now ≤ c.args.state = omega (arith, c.if-state-ends.false) in
    sym (get_or_past c.ends-ends.result.now c.args.state false past)
    ∙ ap (λ (bs : List Bool). get_or bs c.args.state false) c.ends-ends.ensures
    ∙ ends-at c.args.sets.now c.args.state
