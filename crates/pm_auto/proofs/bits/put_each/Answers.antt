use Rattle.std.proofs.Common.{ℕ, List, [], ◌∷◌, ◌∙◌, ◌||◌, eqb, take, get_or, sym, ap}
use Rattle.std.proofs.lemmas.List.{take_more}
use Rattle.pm_auto.specs.States.{has}
use Rattle.pm_auto.specs.Members.{is_in}
use Rattle.pm_auto.proofs.SetLaws.{or-assoc, or-false, has-append}
use Rattle.pm_auto.proofs.bits.put_each.Goals as goal

pub loop-number-preserved : goal.loop-number-preserved
loop-number-preserved c = λ j.
    let xs : List ℕ = c.args.numbers.now in
    let i : ℕ = c.loop-number.number-index in
    let y : ℕ = get_or xs i 0 in
    c.put.ensures.put j
    ∙ ap (λ b. b || eqb y j) (c.in_ok-widen.ensures.same j ∙ c.loop-number.invariant j)
    ∙ sym (or-assoc (is_in c.args.words.now.items j) (has j (take i xs)) (eqb y j))
    ∙ sym (ap (λ b. is_in c.args.words.now.items j || b) (ap (has j) (take_more xs i 0 c.loop-number-test.true) ∙ has-append j (take i xs) (y ∷ []) ∙ ap (λ b. has j (take i xs) || b) (or-false (eqb y j))))
