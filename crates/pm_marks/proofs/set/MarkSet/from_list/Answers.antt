use Rattle.std.proofs.Common.{arith}
use Rattle.std.proofs.lemmas.Grind.{common_steps}
use Rattle.pm_marks.specs.Sets.{IsSet}
use Rattle.pm_marks.proofs.Laws.{ordered-pairs, set-ordered}
use Rattle.pm_marks.proofs.set.MarkSet.from_list.Goals as goal

pub returns-then-same-clause-together : goal.returns-then-same-clause-together
returns-then-same-clause-together g c =
    let set : IsSet g.A.Same.equal c.args.rules.now c.args.marks.items = grind (arith, common_steps) in
    ordered-pairs c.args.rules.now c.args.marks.items (set-ordered g.A.Same.equal g.met.A.Same.is_equality c.args.rules.now c.args.marks.items set)
