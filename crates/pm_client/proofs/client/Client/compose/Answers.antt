use Rattle.std.proofs.Common.{rules}
use Rattle.pm_client.proofs.Keeps.{kin-composed}
use Rattle.pm_client.proofs.client.Client.compose.Goals as goal

pub returns-clause-kin : goal.returns-clause-kin
returns-clause-kin g c rules first log kin =
    let client = c.args.self.now in
    rw (c.in_ok-push.ensures.ok, c.in_ok-message.ensures) (kin-composed g.C.Change.means rules first log client kin c.args.kind)
