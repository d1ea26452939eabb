use Rattle.std.proofs.Common.{◌≤◌, ◌∙◌, ◌||◌, ℕ, List, length, sym, ap, arith}
use Rattle.pm_auto.specs.States.{has}
use Rattle.pm_auto.specs.Members.{is_in}
use Rattle.pm_auto.proofs.MemberLaws.{has-members, in-joined}
use Rattle.pm_auto.proofs.numbers.NumberSet.join.Goals as goal

pub returns : goal.returns
returns c = λ j.
    let mine : List ℕ = c.self.inside.words.items in
    let more : List ℕ = c.other.inside.words.items in
    let long : length more ≤ length c.widen.new.words.items = omega (arith, c.in_ok-widen.ensures.long, c.len.ensures) in
    has-members c.join.new.words.items j
    ∙ in-joined mine more c.join.new.words.items c.widen.new.words.items j
    (λ l. c.join.ensures.joined j l ∙ ap (λ (ws : List ℕ). is_in c.widen.new.words.items j || is_in ws j) c.as_slice.ensures.value)
    c.join.ensures.same long (c.in_ok-widen.ensures.same j)
    ∙ ap (λ b. b || is_in more j) (sym (has-members mine j) ∙ ap (has j) c.self.view_is)
    ∙ ap (λ b. has j c.args.self.now || b) (sym (has-members more j) ∙ ap (has j) c.other.view_is)
