use Rattle.std.proofs.Common.{length, arith, refl}
use Rattle.pm_change.specs.declared.name.Name.{Name}
use Rattle.pm_history.proofs.LatestLaws.{earliest-begins, earliest-next, earliest-ends}
use Rattle.pm_history.proofs.latest.earliest.Goals as goal

pub loop-name-init : goal.loop-name-init
loop-name-init g c = record {
  within = omega arith;
  same = λ differ. earliest-begins c.args.names.now c.args.items.now (length c.args.items.now) refl;
}

pub loop-name-preserved : goal.loop-name-preserved
loop-name-preserved g c =
    let known = c.loop-name.invariant in
    let none : Name = record { client = 0; serial = 0 } in
    record {
      within = omega (arith, known.within, c.min-start.ensures);
      same = λ differ. earliest-next c.args.names.now c.args.items.now c.loop-name.name-index c.loop-name.start c.latest.result c.min-start.result none
          c.loop-name-test.true (c.latest.ensures.place differ) c.min-start.ensures (known.same differ);
    }

pub returns-clause-start : goal.returns-clause-start
returns-clause-start g c = λ differ.
    earliest-ends c.args.names.now c.args.items.now c.loop-name.name-index c.loop-name.start c.loop-name-test.false c.loop-name.invariant.within (c.loop-name.invariant.same differ)
