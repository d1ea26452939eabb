use Rattle.std.proofs.Common.{◌∙◌, rules}
use Rattle.pm_history.specs.Remembers.{live_names}
use Rattle.pm_history.proofs.Trimmings.{settled-inverses}
use Rattle.pm_history.proofs.branches.Branches.held.Goals as goal

pub returns-clause-inverses : goal.returns-clause-inverses
returns-clause-inverses g c = search rules

pub returns-clause-trimmed : goal.returns-clause-trimmed
returns-clause-trimmed g c = λ t. returns-clause-inverses g c ∙ settled-inverses (live_names c.args.self.now) c.args.self.now.items t
