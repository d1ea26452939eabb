use Rattle.std.proofs.Common.{◌<◌, ℕ, length, sym, ◌∙◌, subst, arith}
use Rattle.std.specs.Prelude.{Option, IfSome}
use Rattle.pm_node.proofs.ReachedLaws.{agrees-more, if-agrees}
use Rattle.pm_node.proofs.reached.agreed.Goals as goal
use Rattle.pm_node.proofs.reached.agreed.Goals.{in-Some+in-Some-only+else-one-next, in-Some+in_default-only, in_default}

pub loop-i-init : goal.loop-i-init
loop-i-init c = ((λ j t l e. absurd (omega (arith, l))), tt)

pub loop-i-preserved : goal.loop-i-preserved
loop-i-preserved c =
    let a = c.args.automaton.now in
    let o = c.loop-i.only in
    let h = c.loop-i.invariant in
    let P : Option ℕ → Type 0 = λ z. IfSome z (λ r. r < length a.sets) in
    elim c.match-next.branch [
      | in-Some+in-Some-only+else-one-next w ↦ (
        agrees-more a.edges c.args.kind c.args.found.now c.loop-i.i o c.match-next.only c.next.result h.0 c.next.ensures.edge
            (λ t e. let i = w.in-Some-only.is in let n = w.only-is in let s = w.if-one-next.false in cc) (λ t e. let i = w.in-Some.is in let n = w.only-is in cc),
        subst P (sym w.only-is) w.in-Some.ensures.inside,
      )
      | in-Some+in_default-only w ↦ (
        agrees-more a.edges c.args.kind c.args.found.now c.loop-i.i o c.match-next.only c.next.result h.0 c.next.ensures.edge
            (λ t e. let i = w.in_default-only.is in absurd (cc)) (λ t e. let i = w.in-Some.is in let n = w.only-is in cc),
        subst P (sym w.only-is) w.in-Some.ensures.inside,
      )
      | in_default w ↦ (
        agrees-more a.edges c.args.kind c.args.found.now c.loop-i.i o c.match-next.only c.next.result h.0 c.next.ensures.edge
            (λ t e. w.only-is ∙ e) (λ t e. let i = w.in_default.is in absurd (cc)),
        subst P (sym w.only-is) h.1,
      )
    ]

pub returns-clause-leads : goal.returns-clause-leads
returns-clause-leads c = if-agrees c.args.automaton.now.edges c.args.kind c.args.found.now c.loop-i.i c.loop-i.only c.loop-i.invariant.0 c.loop-i-test.false

pub returns-clause-inside : goal.returns-clause-inside
returns-clause-inside c = c.loop-i.invariant.1
