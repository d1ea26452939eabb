use Rattle.pm_client.proofs.Keeps.{kin-forgotten}
use Rattle.pm_client.proofs.client.Client.forget.Goals as goal

pub returns-clause-kin : goal.returns-clause-kin
returns-clause-kin g c rules first log kin =
    let client = c.args.self.now in
    rw (c.clear.ensures, c.clear-2.ensures) (kin-forgotten g.C.Change.means rules first log client kin)
