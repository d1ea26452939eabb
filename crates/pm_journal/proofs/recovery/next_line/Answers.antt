use Rattle.std.proofs.Common.{◌≡◌, ◌∷◌, [], ap, rules, ◌∙◌}
use Rattle.pm_journal.specs.Lines.{recorded}
use Rattle.pm_journal.proofs.Lines.{open_gate, no_end}
use Rattle.pm_journal.proofs.recovery.next_line.Goals as goal

pub returns-in-None-clause-none : goal.returns-in-None-clause-none
returns-in-None-clause-none c =
    let parts : c.args.rest.now ≡ c.in_ok-gate.gate.now ∷ c.in_ok-gate.behind.now = search rules in
    let is : c.in_ok-gate.gate.now ≡ 32 = search rules in
    ap recorded parts ∙ open_gate c.in_ok-gate.gate.now c.in_ok-gate.behind.now is ∙ no_end c.in_ok-gate.behind.now [] c.in-None.ensures.none
