use Rattle.std.proofs.Common.{◌≡◌, ◌∙◌, refl, sym, subst, rules}
use Rattle.std.proofs.lemmas.Bool.{true≢false}
use Rattle.pm_history.specs.Turns.{HaveLostNumbered}
use Rattle.pm_history.proofs.Taken.{popped}
use Rattle.pm_history.proofs.branches.Branches.pop_event.Goals as goal

pub returns-then-is_some : goal.returns-then-is_some
returns-then-is_some g c =
    let old = c.args.self.now in
    let undo : c.self.inside.undo ≡ old.undo = search rules in
    let redo : c.self.inside.redo ≡ old.redo = search rules in
    let items : c.self.inside.items ≡ old.items = search rules in
    let result = c.take_numbered-popped.result in
    let left = c.take_numbered-popped.new.self in
    popped c.args.number old _ result (subst (λ es. HaveLostNumbered c.args.number es result left) undo c.take_numbered-popped.ensures) redo items (λ _. refl)
    (λ none. absurd (true≢false (sym c.if-is_some.true ∙ c.is_some.ensures ∙ none)))
