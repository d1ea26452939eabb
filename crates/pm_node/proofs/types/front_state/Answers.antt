use Rattle.std.proofs.Common.{◌≡◌, ◌-◌, ◌++◌, ◌∷◌, [], ℕ, take, ap, sym, ◌∙◌, subst, arith}
use Rattle.std.specs.Prelude.{Option, Some, IfSome}
use Rattle.std.specs.Arc.{arc_value}
use Rattle.pm_auto.specs.Walks.{accepted}
use Rattle.pm_tokens.specs.Scan.{part}
use Rattle.pm_node.specs.Kinds.{kind_in, kinds}
use Rattle.pm_node.specs.Reached.{IsOnly}
use Rattle.pm_node.proofs.AutoWalk.{kinds-last}
use Rattle.pm_node.proofs.ReachedLaws.{front-only, front-walked}
use Rattle.pm_node.proofs.types.front_state.Goals as goal

pub returns-in-Some-clause-leads : goal.returns-in-Some-clause-leads
returns-in-Some-clause-leads c =
    let a = c.args.automaton.now in
    let text = c.args.text in
    let xs = c.args.children.now in
    let n = c.args.upto - 1 in
    let k = c.kind_of-last.result in
    let x = c.get.result.now in
    let kind : k ≡ kind_in text (arc_value x) = c.kind_of-last.ensures ∙ ap (kind_in text) c.deref.ensures in
    let last : kinds text (take c.args.upto xs) ≡ kinds text (take n xs) ++ k ∷ [] =
    kinds-last text xs n c.args.upto x (omega (arith, c.if-upto-gt-FAR.true)) (omega (arith, c.if-upto-gt-FAR.true, c.requires.within)) c.get.ensures
    ∙ ap (λ z. kinds text (take n xs) ++ z ∷ []) (sym kind) in
    let P : Option ℕ → Type 0 = λ z. IfSome z (IsOnly a.sets a.edges k) in
    front-only a.sets a.edges (kinds text (take c.args.upto xs)) (kinds text (take n xs)) k (Some c.in-Some.state) last (subst P c.in-Some.is c.in_ok-state.ensures.only)

pub returns-clause-leads : goal.returns-clause-leads
returns-clause-leads c =
    let a = c.args.automaton.now in
    let text = c.args.text in
    let xs = c.args.children.now in
    let u = c.args.upto in
    let whole : part 0 u xs ≡ take u xs = ap (λ n. take n xs) (let e : u - 0 ≡ u = omega arith in e) in
    front-walked a.sets a.edges (kinds text (take u xs)) c.walk.result
    (λ w. ap (λ z. accepted a.sets a.edges 0 (kinds text z ++ w)) (sym whole)
    ∙ (ap (λ z. accepted a.sets a.edges z (kinds text (part 0 u xs) ++ w)) (sym c.start.ensures.start) ∙ c.walk.ensures.leads w))
