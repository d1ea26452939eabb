use Rattle.std.proofs.Common.{◌↔◌, sym, subst}
use Rattle.std.specs.Option.{IsSome}
use Rattle.pm_history.specs.Turns.{event_for}
use Rattle.pm_history.proofs.Taken.{some-both}
use Rattle.pm_history.proofs.branches.Branches.last.Goals as goal

pub returns-in-UndoEvent-clause-none : goal.returns-in-UndoEvent-clause-none
returns-in-UndoEvent-clause-none g c =
    let h = c.args.self.now in
    let both = some-both c.in-UndoEvent.number h.undo in
    let none = c.event_numbered.ensures.none in
    subst (λ t. IsSome c.event_numbered.result ↔ IsSome (event_for t h)) (sym c.in-UndoEvent.is) (λ s. both.0 (none.0 s), λ s. none.1 (both.1 s))
