use Rattle.std.proofs.Common.{◌≡◌, ◌∙◌, ap, subst, sym, List}
use Rattle.pm_map.specs.declared.step_map.Span.{Span}
use Rattle.pm_map.specs.Moves.{moved, kept_at}
use Rattle.pm_history.specs.declared.item.Item.{Item}
use Rattle.pm_history.specs.Forms.{seen, Holds}
use Rattle.pm_history.proofs.Smalls.{before-still}
use Rattle.pm_history.proofs.item.Item.passed.Goals as goal

pub returns-then-pos-start : goal.returns-then-pos-start
returns-then-pos-start g c = λ side.
    let held = subst Holds c.in-Whole.is c.self.invariant in
    let same : c.in-Whole.whole.value.map ≡ c.args.self.now.map = ap (λ (i : Item g.row.C.Denot). i.map) (sym (ap seen c.in-Whole.is) ∙ c.self.view_is) in
    subst (λ (rs : List Span). moved rs c.args.pos side ≡ kept_at c.args.pos) same (before-still c.in-Whole.whole.value.map c.in-Whole.start c.args.pos side held.1 c.if-pos-start.true)
