use Rattle.std.proofs.Common.{◌<◌, ◌∙◌, length, sym, arith}
use Rattle.pm_schema.proofs.Dead.{dead-at, dead-first}
use Rattle.pm_schema.proofs.ends.check_ends.Goals as goal

pub returns-then-is_some-clause-refused : goal.returns-then-is_some-clause-refused
returns-then-is_some-clause-refused c =
    let l : c.loop-kind.kind < length c.args.autos.now = omega (arith, c.loop-kind-test.true) in (
      c.requires.named,
      c.requires.have,
      dead-first c.args.spec.now c.args.autos.now c.args.table.now c.loop-kind.kind c.index-autos-kind.result l c.requires.full c.requires.automata c.requires.generatable c.index-autos-kind.is c.loop-kind.invariant
          (dead-at c.args.table.now c.index-autos-kind.result c.in_ok-dead_state.field-0 (sym c.is_some.ensures ∙ c.if-is_some.true) c.in_ok-dead_state.ensures.inside c.in_ok-dead_state.ensures.dead),
    )
