use Rattle.std.proofs.Common.{arith, ap, subst, length}
use Rattle.pm_tokens.specs.Scan.{Balanced}
use Rattle.pm_build.specs.Placing.{Placed}
use Rattle.pm_replace.proofs.WholeSplices.{placed-whole}
use Rattle.pm_replace.proofs.splicing.spliced_letters.Goals as goal

pub typed-requires-clause-room : goal.typed-requires-clause-room
typed-requires-clause-room c = omega (arith, c.requires.room, ap length c.content-new.ensures, c.open_start.ensures.side, c.open_end.ensures.side)

pub returns-in-Some : goal.returns-in-Some
returns-in-Some c =
    let sl = c.args.slice.now in
    let ts = c.args.content.now in
    let made = c.in-Some.made in
    let same = c.content-new.ensures in
    let placed = subst (λ z. Placed ts c.args.from c.args.to z made) same (rw c.in-Some.is at c.in_ok-made.ensures) in
    placed-whole sl (omega (arith, c.open_start.ensures.side)) (omega (arith, c.open_end.ensures.side)) ts made c.args.from c.args.to placed (subst Balanced same c.size.ensures.whole) c.size-in-Some.ensures.whole
