use Rattle.std.proofs.Common.{◌≡◌, ◌+◌, ◌-◌, ◌<◌, ◌≤◌, ◌∙◌, sym, ap, arith, drop, length}
use Rattle.pm_history.specs.Turns.{any_numbered}
use Rattle.pm_history.proofs.Taken.{none-next, some-next}
use Rattle.pm_history.proofs.branch.place_of.Goals as goal

pub loop-i-preserved : goal.loop-i-preserved
loop-i-preserved c =
    let es = c.args.events.now in
    let i = c.loop-i.i in
    let known = c.loop-i.invariant in
    let below : i ≤ length es = known.within in
    let last : i - 1 < length es = omega (arith, below, c.loop-i-test.true) in
    let one : (i - 1) + 1 ≡ i = omega (arith, c.loop-i-test.true) in
    record {
      within = omega (arith, below);
      none = none-next c.args.number es (i - 1) c.index-events-i.result last c.index-events-i.is (sym c.has_number.ensures ∙ c.if-has_number.false)
          ∙ ap (λ k. any_numbered c.args.number (drop k es)) one ∙ known.none;
    }

pub returns-then-has_number : goal.returns-then-has_number
returns-then-has_number c =
    let es = c.args.events.now in
    let i = c.loop-i.i in
    let known = c.loop-i.invariant in
    let below : i ≤ length es = known.within in
    let last : i - 1 < length es = omega (arith, below, c.loop-i-test.true) in
    let one : (i - 1) + 1 ≡ i = omega (arith, c.loop-i-test.true) in (
      last,
      some-next c.args.number es (i - 1) c.index-events-i.result last c.index-events-i.is (sym c.has_number.ensures ∙ c.if-has_number.true),
      ap (λ k. any_numbered c.args.number (drop k es)) one ∙ known.none,
    )
