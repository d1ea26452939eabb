use Rattle.std.proofs.Common.{◌≡◌, ◌+◌, take}
use Rattle.pm_client.specs.Clients.{named}
use Rattle.pm_session.proofs.forge.named_copies.Given as goal

abbrev pub invariant-loop-change : goal.invariant-loop-change
invariant-loop-change g l = (l.all ≡ named l.client (l.fn.serial + 1) (take l.change-index l.steps)) × (l.last ≡ l.fn.serial + l.change-index)
