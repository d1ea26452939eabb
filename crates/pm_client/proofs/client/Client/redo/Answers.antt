use Rattle.pm_history.specs.declared.turn.Turn.TheVariants.{Redo}
use Rattle.pm_history.proofs.Taken.{last-empty}
use Rattle.pm_client.proofs.Tyings.{turn-tied}
use Rattle.pm_client.proofs.Turns.{turn-kin, turn-whole, turn-restores, turn-tokens}
use Rattle.pm_client.proofs.client.Client.redo.Goals as goal

pub returns-clause-nothing : goal.returns-clause-nothing
returns-clause-nothing g c =
    let none = last-empty c.args.self.now.history.redo in
    (λ e. none.0 (c.turn.ensures.nothing.0 e), λ e. c.turn.ensures.nothing.1 (none.1 e))

pub returns-clause-kin : goal.returns-clause-kin
returns-clause-kin g c = turn-kin g.C.Change.means c.args.rules.now g.met.C.Change.laws c.args.self.now c.turn.new.self Redo c.turn.result c.turn.ensures.turned c.turn.ensures.err

pub returns-clause-whole : goal.returns-clause-whole
returns-clause-whole g c = turn-whole g.C.Change.means c.args.rules.now g.met.C.Change.laws c.args.self.now c.turn.new.self Redo c.turn.result c.turn.ensures.turned

pub returns-clause-restores : goal.returns-clause-restores
returns-clause-restores g c = turn-restores g.C.Change.means c.args.rules.now g.met.C.Change.laws c.args.self.now c.turn.new.self Redo c.turn.result c.turn.ensures.turned

pub returns-clause-tokens : goal.returns-clause-tokens
returns-clause-tokens g c = turn-tokens g.C.Change.means c.args.rules.now g.met.C.Change.laws c.args.self.now c.turn.new.self Redo c.turn.result c.turn.ensures.turned

pub returns-clause-tied : goal.returns-clause-tied
returns-clause-tied g c = turn-tied g.C.Change.means c.args.rules.now c.args.self.now c.turn.new.self Redo c.turn.result c.turn.ensures.turned
