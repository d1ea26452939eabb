use Rattle.std.proofs.Common.{sym, subst}
use Rattle.pm_units.proofs.LoneLaws.{join-whole}
use Rattle.pm_text.specs.Lone.{HasNoLone}
use Rattle.pm_units.proofs.lone.both_are_whole.Goals as goal

pub returns-then-second : goal.returns-then-second
returns-then-second c = λ whole.
    let first : HasNoLone c.args.first.now = subst HasNoLone c.first.view_is (c.first.invariant.none c.if-first.true) in
    let second : HasNoLone c.args.second.now = subst HasNoLone c.second.view_is (c.second.invariant.none c.if-second.true) in
    subst HasNoLone (sym c.requires.units) (join-whole c.args.first.now c.args.second.now first second)
