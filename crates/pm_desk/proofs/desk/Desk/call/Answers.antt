use Rattle.std.proofs.Common.{rules}
use Rattle.pm_desk.proofs.Absent.{absent}
use Rattle.pm_desk.proofs.desk.Desk.call.Goals as goal

pub returns-clause-absent : goal.returns-clause-absent
returns-clause-absent g c =
    absent g.M.Machine.next g.M.Machine.reply g.M.Machine.good g.M.Machine.own c.args.self.now.opening c.args.seat.now _ c.args.request c.call.result (search rules)
