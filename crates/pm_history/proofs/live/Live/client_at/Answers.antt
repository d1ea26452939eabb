use Rattle.std.proofs.Common.{◌∙◌, ap}
use Rattle.std.specs.Prelude.{nat_eq}
use Rattle.std.specs.HashMap.{get}
use Rattle.pm_history.specs.Live.{client_at}
use Rattle.pm_history.proofs.live.Live.client_at.Goals as goal

pub returns : goal.returns
returns c =
    c.client_in.ensures ∙ ap (λ o. client_at o c.args.serial (get nat_eq c.args.self.now.far c.args.serial)) c.there.ensures ∙ c.requires.clients_are c.args.serial
