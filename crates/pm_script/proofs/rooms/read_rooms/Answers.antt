use Rattle.pm_script.proofs.OwnLaws.{read-own, read-hold}
use Rattle.pm_script.proofs.rooms.read_rooms.Goals as goal

pub returns-clause-own : goal.returns-clause-own
returns-clause-own c = read-own c.args.input.now c.read_in.result c.read_in.ensures

pub returns-clause-holds : goal.returns-clause-holds
returns-clause-holds c = read-hold c.args.input.now c.read_in.result c.read_in.ensures
