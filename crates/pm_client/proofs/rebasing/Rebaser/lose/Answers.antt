use Rattle.pm_client.proofs.Rebasers.{at-lost}
use Rattle.pm_client.proofs.rebasing.Rebaser.lose.Goals as goal

pub returns : goal.returns
returns g c = λ so n k small fits at.
    at-lost g.C.Change.means c.args.self.now c.put_front.new.self c.push.new.self so c.args.back c.args.serial n k small fits c.in_ok-push.ensures.ok c.in_ok-put_front.ensures at
