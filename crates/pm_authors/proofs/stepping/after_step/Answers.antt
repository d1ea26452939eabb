use Rattle.std.proofs.Common.{◌≡◌, arith, sym, ◌∙◌}
use Rattle.pm_authors.specs.Runs.{spelled}
use Rattle.pm_authors.proofs.Ranges.{all-left, next-at, one-over, none-over, rest-left}
use Rattle.pm_authors.proofs.stepping.after_step.Goals as goal
use Rattle.pm_authors.proofs.stepping.after_step.Goals.{in-Some+in_ok-at, in_default}

pub loop-i-init : goal.loop-i-init
loop-i-init c = record {
  left = rw c.new-so_far.ensures (all-left c.args.author c.args.map.now (spelled c.args.runs.now) c.ordered.ensures c.requires);
  maximal = rw c.new-so_far.ensures tt;
}

pub over_range-requires-clause-order : goal.over_range-requires-clause-order
over_range-requires-clause-order c = (next-at _ _ _ _ _ c.args.map.now c.loop-i.i c.in-Some.range (sym c.in-Some.ensures) c.loop-i.invariant.left).order

pub over_range-requires-clause-end : goal.over_range-requires-clause-end
over_range-requires-clause-end c = (next-at _ _ _ _ _ c.args.map.now c.loop-i.i c.in-Some.range (sym c.in-Some.ensures) c.loop-i.invariant.left).end

pub over_range-requires-clause-room : goal.over_range-requires-clause-room
over_range-requires-clause-room c = (next-at _ _ _ _ _ c.args.map.now c.loop-i.i c.in-Some.range (sym c.in-Some.ensures) c.loop-i.invariant.left).room

pub loop-i-preserved : goal.loop-i-preserved
loop-i-preserved c =
    elim c.match-span.branch [
      | in-Some+in_ok-at w ↦
          let e = w.in_ok-at.ensures in
          rw (w.so_far-is, w.at-is) (record {
            left = one-over _ _ _ _ _ c.args.map.now c.loop-i.i _ _ w.in-Some.range (sym w.in-Some.ensures) e.tokens.0 e.tokens.1 c.loop-i.invariant.left;
            maximal = e.maximal c.loop-i.invariant.maximal;
          })
      | in_default w ↦
          rw (w.so_far-is, w.at-is) (record {
            left = none-over _ _ _ _ _ c.args.map.now c.loop-i.i (sym w.in_default.ensures) c.loop-i.invariant.left;
            maximal = c.loop-i.invariant.maximal;
          })
    ]

pub copy_part-requires : goal.copy_part-requires
copy_part-requires c =
    let e : c.loop-i.i ≡ 2 = omega (arith, c.loop-i-test.false, c.loop-i.auto.i-end) in
    (rest-left _ _ _ _ _ c.args.map.now c.loop-i.i e c.few.ensures c.loop-i.invariant.left).room

pub returns-clause-tokens : goal.returns-clause-tokens
returns-clause-tokens c =
    let e : c.loop-i.i ≡ 2 = omega (arith, c.loop-i-test.false, c.loop-i.auto.i-end) in
    c.in_ok-copy_part.ensures.tokens ∙ (rest-left _ _ _ _ _ c.args.map.now c.loop-i.i e c.few.ensures c.loop-i.invariant.left).same
