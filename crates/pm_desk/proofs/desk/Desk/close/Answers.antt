use Rattle.std.proofs.Common.{subst}
use Rattle.pm_desk.specs.Desks.{IsWhole}
use Rattle.pm_desk.proofs.desk.Desk.close.Goals as goal

pub returns-clause-history : goal.returns-clause-history
returns-clause-history g c =
    let e = c.close.ensures.history in
    subst (λ s. IsWhole g.M.Machine.own s c.close.result.history.items) c.seat.view_is record { begins = e.begins; calls = e.calls; joined = e.joined; seats = e.seats; owned = e.owned }
