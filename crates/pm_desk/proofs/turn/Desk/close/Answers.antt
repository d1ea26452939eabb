use Rattle.std.proofs.Common.{sym, ◌∙◌, subst}
use Rattle.pm_desk.proofs.Seats.{closes}
use Rattle.pm_desk.proofs.turn.Desk.close.Goals as goal

pub returns-clause-machine : goal.returns-clause-machine
returns-clause-machine g c =
    let seat = c.requires.seat in
    let e = closes g.M.Machine.next g.M.Machine.good g.M.Machine.own c.args.self.table.shared.key.value c.args.seat.token.id c.args.seat.token.me.0 _ _ c.take-machine.result c.close_with-closed.ensures.values.2 seat.1.0
    (sym c.args.seat.numbered.0 ∙ c.requires.first) seat.1.2 c.requires.all c.take-machine.ensures.value in
    (e.0.1, subst (λ r. g.M.Machine.good r c.take-machine.result.machine) (sym c.args.self.ruled) e.0.2)

pub returns-clause-history : goal.returns-clause-history
returns-clause-history g c =
    let seat = c.requires.seat in
    (closes g.M.Machine.next g.M.Machine.good g.M.Machine.own c.args.self.table.shared.key.value c.args.seat.token.id c.args.seat.token.me.0 _ _ c.take-machine.result c.close_with-closed.ensures.values.2 seat.1.0
    (sym c.args.seat.numbered.0 ∙ c.requires.first) seat.1.2 c.requires.all c.take-machine.ensures.value).1
