use Rattle.std.proofs.Common.{subst}
use Rattle.pm_text.specs.Units.{utf16, IsOneText}
use Rattle.pm_text.specs.Lone.{HasNoLone}
use Rattle.pm_text.proofs.Spelled.{text_units, text_whole}
use Rattle.pm_text.proofs.Steps.{step_on, at_end}
use Rattle.pm_text.proofs.units.mixed_units.Goals as goal

pub loop-unit-preserved : goal.loop-unit-preserved
loop-unit-preserved c =
    let on = step_on c.loop-unit.unit-iterator c.next.new.self c.in-Some.unit c.loop-unit.units.items (utf16 c.args.text.now) c.in-Some.ensures.steps c.loop-unit.invariant.is_text c.loop-unit.invariant.sum in
    record { sum = rw c.in_ok-push.ensures.items on.0; is_text = on.1 }

pub returns-clause-text : goal.returns-clause-text
returns-clause-text c =
    let all = at_end c.loop-unit.unit-iterator c.next.new.self c.loop-unit.units.items (utf16 c.args.text.now) c.in-None.ensures.steps c.loop-unit.invariant.sum in
    subst (λ us. IsOneText us c.args.text.now) all (text_units c.args.text.now c.utf8.text)

pub returns-clause-whole : goal.returns-clause-whole
returns-clause-whole c =
    let all = at_end c.loop-unit.unit-iterator c.next.new.self c.loop-unit.units.items (utf16 c.args.text.now) c.in-None.ensures.steps c.loop-unit.invariant.sum in
    subst HasNoLone all (text_whole c.args.text.now c.utf8.text)
