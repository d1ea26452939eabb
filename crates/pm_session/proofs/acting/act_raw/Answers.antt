use Rattle.std.proofs.Common.{◌+◌}
use Rattle.pm_authority.specs.declared.message.Message.TheVariants.{Submit}
use Rattle.pm_client.specs.Clients.{named}
use Rattle.pm_session.proofs.Forging.{either-drawn}
use Rattle.pm_session.proofs.acting.act_raw.Goals as goal

pub returns-clause-stands : goal.returns-clause-stands
returns-clause-stands g c =
    let host = c.args.host.now in
    either-drawn g.C.Change.means c.args.rules.now g.met.C.Change.laws c.args.name c.args.serial.now c.in-Forge.steps c.in-Forge.version (g.H.Host.first host) g.H.Host.log host
    c.forge.new.host
    (λ answer. g.H.Host.told c.args.rules.now host c.args.name (Submit c.in-Forge.version (named c.args.name (c.args.serial.now + 1) c.in-Forge.steps)) answer c.forge.new.host)
    c.forge.result c.forge.new.serial c.requires.stands (rw c.as_slice.ensures at c.forge.ensures.told) c.forge.ensures.err
