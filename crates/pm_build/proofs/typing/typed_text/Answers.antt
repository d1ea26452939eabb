use Rattle.std.proofs.Common.{◌-◌, take, drop, arith, ap, ◌∙◌}
use Rattle.pm_build.proofs.PlacingLaws.{placed-letters}
use Rattle.pm_build.proofs.typing.typed_text.Goals as goal

pub returns : goal.returns
returns c =
    let us = c.args.text.now in
    let to = c.args.to in
    let begun = rw c.in-Some.is at c.in_ok-begun.ensures in
    let rest = c.in_ok-rest.ensures ∙ ap (λ k. take (k - to) (drop to us)) c.len-2.ensures in
    placed-letters c.args.head.now c.in_ok-with_body.field-0 us c.in_ok-front.front c.in-Some.begun c.in_ok-rest.rest c.in_ok-units.units c.args.new.now c.args.from to
    c.requires.order (omega (arith, c.if-len-to.false, c.len.ensures)) c.in_ok-front.ensures begun rest c.in_ok-units.ensures c.in_ok-with_body.ensures
