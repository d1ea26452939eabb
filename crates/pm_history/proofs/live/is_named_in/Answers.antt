use Rattle.std.proofs.Common.{◌≡◌, ◌+◌, ◌-◌, ◌<◌, ◌≤◌, ◌∙◌, sym, ap, arith, drop, length}
use Rattle.pm_history.specs.Remembers.{names_of}
use Rattle.pm_history.specs.Starts.{is_named}
use Rattle.pm_history.proofs.Trimmings.{events-next, events-there, events-later}
use Rattle.pm_history.proofs.live.is_named_in.Goals as goal

pub loop-i-preserved : goal.loop-i-preserved
loop-i-preserved c =
    let es = c.args.events.now in
    let i = c.loop-i.i in
    let known = c.loop-i.invariant in
    let below : i ≤ length es = known.within in
    let last : i - 1 < length es = omega (arith, below, c.loop-i-test.true) in
    let one : (i - 1) + 1 ≡ i = omega (arith, c.loop-i-test.true) in
    record {
      within = omega (arith, below);
      none = events-next es (i - 1) c.args.name c.index-events-i.result last
          (ap (λ xs. is_named xs c.args.name) (sym c.as_slice.ensures)
          ∙ sym c.is_named.ensures ∙ c.if-is_named.false)
          ∙ ap (λ k. is_named (names_of (drop k es)) c.args.name) one ∙ known.none;
    }

pub returns-then-is_named : goal.returns-then-is_named
returns-then-is_named c =
    let es = c.args.events.now in
    let i = c.loop-i.i in
    let below : i ≤ length es = c.loop-i.invariant.within in
    let last : i - 1 < length es = omega (arith, below, c.loop-i-test.true) in
    sym
    (events-later es (i - 1) c.args.name
    (events-there es (i - 1) c.args.name c.index-events-i.result last
    (ap (λ xs. is_named xs c.args.name) (sym c.as_slice.ensures)
    ∙ sym c.is_named.ensures ∙ c.if-is_named.true)))
