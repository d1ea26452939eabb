use Rattle.pm_history.proofs.Trimmings.{trimmed-twice, settled-inverses, history-trimmed}
use Rattle.pm_history.specs.Remembers.{live_names}
use Rattle.pm_history.specs.Trims.{trimmed_items}
use Rattle.pm_history.proofs.laws.trimming_keeps.Goals as goal

pub returns-clause-stands : goal.returns-clause-stands
returns-clause-stands g c = λ client drawn first doc steps e k. history-trimmed g.C.Change.means c.args.rules.now client drawn first doc steps c.args.history.now e k

pub returns-clause-trimmed : goal.returns-clause-trimmed
returns-clause-trimmed g c = trimmed-twice (live_names c.args.history.now) c.args.history.now.items

pub returns-clause-inverses : goal.returns-clause-inverses
returns-clause-inverses g c =
    let live = live_names c.args.history.now in
    settled-inverses live (trimmed_items live c.args.history.now.items) (trimmed-twice live c.args.history.now.items)
