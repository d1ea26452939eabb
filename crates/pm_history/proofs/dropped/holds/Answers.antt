use Rattle.std.proofs.Common.{◌∙◌, ap, sym}
use Rattle.std.specs.Option.{is_some}
use Rattle.pm_history.proofs.RisingLaws.{some-there, holds_found}
use Rattle.pm_history.proofs.dropped.holds.Goals as goal

pub returns : goal.returns
returns g c =
    c.is_some.ensures ∙ some-there c.args.items.now c.place_among.result c.place_among.ensures.within
    ∙ ap is_some (sym c.place_among.ensures.found) ∙ sym (holds_found c.args.name c.args.items.now)
