use Rattle.pm_client.proofs.Turns.{made-maps, made-room}
use Rattle.pm_client.proofs.client.Client.turn.Goals as goal

pub take_turn-requires-clause-maps : goal.take_turn-requires-clause-maps
take_turn-requires-clause-maps g c =
    let m = g.C.Change.means in
    let client = c.args.self.now in
    made-maps m c.args.rules.now g.met.C.Change.laws c.requires.first c.requires.log client c.requires.kin c.in_ok-made.made c.in_ok-made.ensures.steps

pub take_turn-requires-clause-room : goal.take_turn-requires-clause-room
take_turn-requires-clause-room g c =
    let m = g.C.Change.means in
    let client = c.args.self.now in
    made-room m c.args.rules.now g.met.C.Change.laws c.requires.first c.requires.log client c.requires.kin c.in_ok-made.made c.in_ok-made.ensures.steps
