use Rattle.std.proofs.Common.{◌≡◌, ◌++◌, ℕ, true, take, drop, ap, sym, ◌∙◌, subst}
use Rattle.std.specs.Prelude.{Option, IfSome}
use Rattle.pm_auto.specs.Walks.{accepted}
use Rattle.pm_tokens.specs.Scan.{part}
use Rattle.pm_node.specs.Kinds.{kinds}
use Rattle.pm_node.specs.Reached.{IsFront}
use Rattle.pm_node.proofs.TouchedLaws.{kinds-parts}
use Rattle.pm_node.proofs.types.types_fit.Goals as goal

pub returns : goal.returns
returns c = λ r h.
    let a = c.args.automaton.now in
    let text = c.args.text in
    let xs = c.args.old.now in
    let t = c.args.touched in
    let front = kinds text (take t.from xs) in
    let middle = kinds text (part t.from t.to xs) in
    let made = kinds text (part t.new_from t.new_to c.args.new.now) in
    let behind = kinds text (drop t.to xs) in
    let P : Option ℕ → Type 0 = λ z. IfSome z (IsFront a.sets a.edges front) in
    let is-front : IsFront a.sets a.edges front c.in-Some.state = subst P c.in-Some.is c.in_ok-state.ensures.leads in
    let before : accepted a.sets a.edges 0 (front ++ (middle ++ behind)) ≡ true = ap (accepted a.sets a.edges 0) (sym (kinds-parts text xs t.from t.to c.requires.order)) ∙ h in
    let left : accepted a.sets a.edges c.in-Some-walk.left behind ≡ true =
    sym (c.in-Some-walk.ensures.leads behind) ∙ (sym (is-front (middle ++ behind) (middle ++ behind) before) ∙ before) in
    is-front (middle ++ behind) (made ++ behind) before ∙ (c.in-Some-walk-2.ensures.leads behind ∙ c.ends_alike.ensures r left)
