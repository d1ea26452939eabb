use Rattle.std.proofs.Common.{◌∙◌, ℕ, List, sym, ap}
use Rattle.pm_auto.specs.States.{has}
use Rattle.pm_auto.specs.Members.{is_in}
use Rattle.pm_auto.proofs.MemberLaws.{has-members}
use Rattle.pm_auto.proofs.numbers.NumberSet.as_bits.Goals as goal

pub returns : goal.returns
returns c = λ j. ap (λ (ws : List ℕ). is_in ws j) c.as_slice.ensures.value ∙ sym (has-members c.self.inside.words.items j) ∙ ap (has j) c.self.view_is
