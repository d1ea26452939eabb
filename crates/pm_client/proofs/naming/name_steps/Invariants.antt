use Rattle.std.proofs.Common.{◌≡◌, ◌+◌, ◌≤◌, length}
use Rattle.pm_client.specs.Clients.{named}
use Rattle.pm_client.proofs.naming.name_steps.Given as goal

abbrev pub invariant-loop-change : goal.invariant-loop-change
invariant-loop-change g l =
    let it = goal.iterator-loop-change g in
    it.can_next l.change-iterator × it.is_finite l.change-iterator
    × (l.all ≡ named l.client l.serial l.yielded) × (l.done ≡ length l.yielded)
    × (l.done + it.remaining l.change-iterator ≤ it.remaining l.initial.change-iterator)
