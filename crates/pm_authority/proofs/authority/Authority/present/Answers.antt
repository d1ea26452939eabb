use Rattle.std.proofs.Common.{◌≡◌, rules, IfOk, OnOk}
use Rattle.pm_authority.specs.Presents.{presented}
use Rattle.pm_authority.proofs.Presented.{present-causes, present-next}
use Rattle.pm_authority.proofs.authority.Authority.present.Goals as goal

pub returns-in-Submit-clause-causes : goal.returns-in-Submit-clause-causes
returns-in-Submit-clause-causes g c =
    let answer : IfOk c.submit.result (λ a. a ≡ (presented g.C.Change.means c.args.rules.now c.args.self.now c.args.message.now).0) = search rules in
    present-causes g.C.Change.means c.args.rules.now c.submit.result c.args.self.now c.args.message.now answer

pub returns-in-Submit-clause-next : goal.returns-in-Submit-clause-next
returns-in-Submit-clause-next g c =
    let answer : IfOk c.submit.result (λ a. a ≡ (presented g.C.Change.means c.args.rules.now c.args.self.now c.args.message.now).0) = search rules in
    let after : OnOk c.submit.result (c.submit.new.self ≡ (presented g.C.Change.means c.args.rules.now c.args.self.now c.args.message.now).1) = search rules in
    present-next g.C.Change.means c.args.rules.now c.submit.result c.args.self.now c.submit.new.self c.args.message.now answer after
