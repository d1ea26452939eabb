use Rattle.std.proofs.Common.{◌∙◌, ◌||◌, sym, ap}
use Rattle.pm_auto.specs.States.{has}
use Rattle.pm_auto.proofs.MemberLaws.{has-members}
use Rattle.pm_auto.proofs.numbers.NumberSet.put_all.Goals as goal

pub returns : goal.returns
returns c = λ j.
    has-members c.put_each.new.words.items j
    ∙ c.in_ok-put_each.ensures j
    ∙ ap (λ b. b || has j c.args.numbers.now) (sym (has-members c.self.inside.words.items j) ∙ ap (has j) c.self.view_is)
