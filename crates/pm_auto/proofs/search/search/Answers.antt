use Rattle.std.proofs.Common.{◌≡◌, ◌<◌, ◌∙◌, sym, ap, subst, false, true, get_or, length, List, Bool, inl, inr, ◌⊎◌}
use Rattle.pm_auto.specs.Graph.{Shortest}
use Rattle.pm_auto.specs.Near.{wider, trail}
use Rattle.pm_auto.proofs.SearchLaws.{Rounds, rounds-more, found-shortest, still-none, fewer, falses, length-near}
use Rattle.pm_auto.proofs.search.search.Goals as goal

smaller : (a b : List Bool) → (a ≡ b → ⊥) → (a ≡ b) ⊎ (falses a < falses b) → falses a < falses b
smaller a b n (inl e) = absurd (n e)
smaller a b n (inr l) = l

pub rounds-preserved : goal.rounds-preserved
rounds-preserved c =
    let f : get_or c.rounds.last c.args.start false ≡ false = ap (λ (m : List Bool). get_or m c.args.start false) (sym c.as_slice.ensures) ∙ (sym c.is_marked.ensures ∙ c.rounds-test.true) in
    let e : c.in_ok-next.next ≡ wider c.rounds.last c.args.links.now c.rounds.last = c.in_ok-next.ensures ∙ ap (λ (m : List Bool). wider m c.args.links.now m) c.as_slice-in-rounds.ensures in
    subst (λ (rs : List (List Bool)). Rounds c.args.links.now c.args.goals.now c.args.start rs c.in_ok-next.next) (sym c.in_ok-push.ensures.ok)
    (rounds-more c.args.links.now c.args.goals.now c.args.start c.rounds.rounds c.rounds.last c.in_ok-next.next c.rounds.invariant f e)

pub rounds-smaller : goal.rounds-smaller
rounds-smaller c =
    let e : c.in_ok-next.next ≡ wider c.rounds.last c.args.links.now c.rounds.last = c.in_ok-next.ensures ∙ ap (λ (m : List Bool). wider m c.args.links.now m) c.as_slice-in-rounds.ensures in
    let l : length c.rounds.last ≡ length c.args.links.now = ap length c.rounds.invariant.now ∙ length-near c.args.links.now c.args.goals.now c.requires.goals (length c.rounds.rounds) in
    let n : c.in_ok-next.next ≡ c.rounds.last → ⊥ = λ q. c.same_marks.ensures.different c.if-same_marks.false (c.as_slice-in-rounds-2.ensures ∙ q ∙ sym c.as_slice-in-rounds-3.ensures) in
    smaller c.in_ok-next.next c.rounds.last n (subst (λ (m : List Bool). (m ≡ c.rounds.last) ⊎ (falses m < falses c.rounds.last)) (sym e) (fewer c.rounds.last c.args.links.now c.rounds.last l))

pub returns-then-same_marks : goal.returns-then-same_marks
returns-then-same_marks c =
    let f : get_or c.rounds.last c.args.start false ≡ false = ap (λ (m : List Bool). get_or m c.args.start false) (sym c.as_slice.ensures) ∙ (sym c.is_marked.ensures ∙ c.rounds-test.true) in
    let e : c.in_ok-next.next ≡ wider c.rounds.last c.args.links.now c.rounds.last = c.in_ok-next.ensures ∙ ap (λ (m : List Bool). wider m c.args.links.now m) c.as_slice-in-rounds.ensures in
    let q : c.in_ok-next.next ≡ c.rounds.last = sym c.as_slice-in-rounds-2.ensures ∙ c.same_marks.ensures.equal c.if-same_marks.true ∙ c.as_slice-in-rounds-3.ensures in
    still-none c.args.links.now c.args.goals.now c.requires.graph c.args.start c.requires.start c.rounds.rounds c.rounds.last c.rounds.invariant f (sym e ∙ q)

pub returns : goal.returns
returns c =
    let t : get_or c.rounds.last c.args.start false ≡ true = ap (λ (m : List Bool). get_or m c.args.start false) (sym c.as_slice.ensures) ∙ (sym c.is_marked.ensures ∙ c.rounds-test.false) in
    let e = c.in_ok-list.ensures ∙ ap (λ (rs : List (List Bool)). trail c.args.links.now rs (length rs) c.args.start) c.as_slice-2.ensures in
    subst (Shortest c.args.links.now c.args.goals.now c.args.start) (sym e)
    (found-shortest c.args.links.now c.args.goals.now c.requires.graph c.args.start c.requires.start c.rounds.rounds c.rounds.last c.rounds.invariant t)
