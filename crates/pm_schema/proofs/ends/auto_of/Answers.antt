use Rattle.std.proofs.Common.{◌≡◌, ◌∙◌, sym, subst}
use Rattle.pm_auto.specs.declared.auto.Auto.{Auto}
use Rattle.pm_schema.specs.Generated.{nth, IsAutoOf}
use Rattle.pm_schema.proofs.SameLaws.{same-auto, same-none}
use Rattle.pm_schema.proofs.ends.auto_of.Goals as goal

pub returns-in_ok-auto-in-Some-clause-automaton : goal.returns-in_ok-auto-in-Some-clause-automaton
returns-in_ok-auto-in-Some-clause-automaton c =
    let found = c.index-autos-kind.result in
    let is : c.in_ok-auto-in-Some.auto ≡ found = c.in_ok-auto-in-Some.ensures in
    let earlier = (nth c.args.nodes.now c.in-Some.kind).content in
    same-auto earlier c.args.content.now c.in_ok-auto-in-Some.auto c.in-Some.ensures.1
    (subst (λ (a : Auto). IsAutoOf earlier a) (sym (is ∙ c.index-autos-kind.is)) (c.requires.automata c.in-Some.kind found c.in-Some.ensures.0))

pub returns-in_ok-auto-in-Some-clause-has : goal.returns-in_ok-auto-in-Some-clause-has
returns-in_ok-auto-in-Some-clause-has c =
    same-none (nth c.args.nodes.now c.in-Some.kind).content c.args.content.now c.args.inline.now c.in-Some.ensures.1 (c.requires.have c.in-Some.kind c.in-Some.ensures.0)
