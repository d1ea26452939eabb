use Rattle.std.proofs.Common.{sym, subst}
use Rattle.pm_history.specs.Tidy.{NamesDiffer}
use Rattle.pm_selective.specs.Tests.{FitItems}
use Rattle.pm_selective.proofs.Standings.{history-fits, history-differs, told-exactly}
use Rattle.pm_selective.proofs.standing.apart.Goals as goal

pub tells_apart-requires-clause-fits : goal.tells_apart-requires-clause-fits
tells_apart-requires-clause-fits c = subst FitItems (sym c.items.ensures) (history-fits c.args.history.now c.requires.stands)

pub tells_apart-requires-clause-differ : goal.tells_apart-requires-clause-differ
tells_apart-requires-clause-differ c = subst NamesDiffer (sym c.items.ensures) (history-differs c.args.history.now c.requires.stands)

pub returns : goal.returns
returns c =
    told-exactly c.tells_apart.result c.args.history.now c.args.event.now c.as_slice.result.now c.items.result.now c.as_slice.ensures c.items.ensures c.requires.event c.tells_apart.ensures
