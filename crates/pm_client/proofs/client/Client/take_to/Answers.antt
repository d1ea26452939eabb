use Rattle.std.proofs.Common.{◌≡◌, sym, ap, subst}
use Rattle.pm_client.specs.Clients.{taken_at}
use Rattle.pm_client.specs.Kins.{Kin}
use Rattle.pm_client.proofs.Takings.{kin-taken_at}
use Rattle.pm_client.specs.TokenNames.{KeepsTokens}
use Rattle.pm_client.proofs.Plannings.{either-way, on-way}
use Rattle.pm_client.proofs.Causings.{take-causes}
use Rattle.pm_client.proofs.TokenKeeps.{taken-keeps}
use Rattle.pm_client.proofs.client.Client.take_to.Goals as goal

pub returns-clause-kin : goal.returns-clause-kin
returns-clause-kin g c first log kin =
    let m = g.C.Change.means in
    let client = c.args.self.now in
    let to = taken_at m c.args.rules.now client c.args.i in
    either-way (Kin m c.args.rules.now first log) (λ t. (t, c.take_given.new.self) ≡ to) c.take_given.result client c.take_given.new.self c.take_given.ensures.takes c.take_given.ensures.err kin
    (λ t e. subst (Kin m c.args.rules.now first log) (sym (ap (λ x. x.1) e)) (kin-taken_at m c.args.rules.now first log client kin g.met.C.Change.laws c.args.i))

pub returns-clause-tokens : goal.returns-clause-tokens
returns-clause-tokens g c =
    let m = g.C.Change.means in
    let client = c.args.self.now in
    let to = taken_at m c.args.rules.now client c.args.i in
    on-way (λ t. (t, c.take_given.new.self) ≡ to) c.take_given.result c.take_given.ensures.takes
    (λ t e first log kin. subst (λ d. KeepsTokens m log client d (m.size client.base)) (sym (ap (λ x. x.1) e)) (taken-keeps m c.args.rules.now g.met.C.Change.laws first log client kin c.args.i))

pub returns-clause-causes : goal.returns-clause-causes
returns-clause-causes g c =
    take-causes g.C.Change.means c.args.rules.now c.args.self.now g.met.C.Change.laws c.take_given.result c.take_given.new.self c.args.i c.requires.stands c.take_given.ensures.takes
