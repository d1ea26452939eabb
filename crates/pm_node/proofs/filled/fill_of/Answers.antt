use Rattle.pm_node.proofs.FillLaws.{fill-is, fill-any, fill-made, fill-never-none}
use Rattle.pm_node.proofs.filled.fill_of.Goals as goal

pub returns-in-Some-clause-shortest : goal.returns-in-Some-clause-shortest
returns-in-Some-clause-shortest c = λ d.
    fill-any c.args.schema.now c.args.kind c.auto-automaton.result.now d c.in-Some.list c.requires c.auto-automaton.ensures.entry
    (fill-is c.args.schema.now c.auto-automaton.result.now c.generatable.result.now c.start.result c.in_ok-fill.fill c.in-Some.list c.generatable.ensures.table c.start.ensures.start c.in-Some.is c.in_ok-fill.ensures)

pub returns-in-Some-clause-made : goal.returns-in-Some-clause-made
returns-in-Some-clause-made c =
    fill-made c.args.schema.now.generatable c.auto-automaton.result.now c.in-Some.list
    (fill-is c.args.schema.now c.auto-automaton.result.now c.generatable.result.now c.start.result c.in_ok-fill.fill c.in-Some.list c.generatable.ensures.table c.start.ensures.start c.in-Some.is c.in_ok-fill.ensures)

pub returns-in-None-clause-shortest : goal.returns-in-None-clause-shortest
returns-in-None-clause-shortest c =
    absurd (fill-never-none c.args.schema.now c.args.kind c.auto-automaton.result.now c.generatable.result.now c.start.result c.in_ok-fill.fill c.requires c.auto-automaton.ensures.entry c.generatable.ensures.table c.start.ensures.start c.in-None.is c.in_ok-fill.ensures)

pub returns-in-None-clause-made : goal.returns-in-None-clause-made
returns-in-None-clause-made c =
    absurd (fill-never-none c.args.schema.now c.args.kind c.auto-automaton.result.now c.generatable.result.now c.start.result c.in_ok-fill.fill c.requires c.auto-automaton.ensures.entry c.generatable.ensures.table c.start.ensures.start c.in-None.is c.in_ok-fill.ensures)
