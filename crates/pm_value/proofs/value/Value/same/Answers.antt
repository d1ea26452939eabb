use Rattle.std.proofs.Common.{sym, ◌∙◌}
use Rattle.pm_value.specs.Lawful.{same-decides}
use Rattle.pm_value.proofs.value.Value.same.Goals as goal

pub returns-clause-equality : goal.returns-clause-equality
returns-clause-equality c =
    let law = same-decides c.args.self.now c.args.other.now in
    (λ t. law.0 (sym c.same_value.ensures ∙ t), λ e. c.same_value.ensures ∙ law.1 e)
