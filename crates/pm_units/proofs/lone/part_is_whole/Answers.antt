use Rattle.std.proofs.Common.{subst}
use Rattle.pm_units.specs.Pieces.{form_units}
use Rattle.pm_units.proofs.LoneLaws.{part-whole}
use Rattle.pm_text.specs.Lone.{HasNoLone}
use Rattle.pm_units.proofs.lone.part_is_whole.Goals as goal

pub returns-then-text : goal.returns-then-text
returns-then-text c = λ before after is whole.
    let text : HasNoLone c.args.text.now = subst HasNoLone c.text.view_is (c.text.invariant.none c.if-text.true) in
    part-whole before (form_units c.args.part.now) after (subst HasNoLone is text) (c.has_whole_ends.ensures.first whole) (c.has_whole_ends.ensures.last whole)
