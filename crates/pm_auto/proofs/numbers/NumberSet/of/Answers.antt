use Rattle.std.proofs.Common.{◌∙◌, ◌||◌, ℕ, List, [], ap, arith}
use Rattle.pm_auto.specs.States.{has}
use Rattle.pm_auto.specs.Members.{is_in}
use Rattle.pm_auto.proofs.MemberLaws.{has-members, in-past}
use Rattle.pm_auto.proofs.numbers.NumberSet.of.Goals as goal

pub returns : goal.returns
returns c = λ j.
    has-members c.put_each.new.words.items j
    ∙ c.in_ok-put_each.ensures j
    ∙ ap (λ b. b || has j c.args.numbers.now) (ap (λ (ws : List ℕ). is_in ws j) c.new-words.ensures.items ∙ in-past [] j (omega arith))
