use Rattle.pm_client.proofs.Advances.{confirm-applies}
use Rattle.pm_client.proofs.client.Client.base_behind.Goals as goal

pub advance-requires-clause-applies : goal.advance-requires-clause-applies
advance-requires-clause-applies g c =
    rw c.as_slice.ensures
    (confirm-applies g.C.Change.means c.args.rules.now c.args.self.now c.args.own c.requires)
