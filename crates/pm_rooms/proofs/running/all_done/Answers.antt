use Rattle.std.proofs.Common.{rules, ◌≡◌, ◌+◌, ◌≤◌, All, [], ◌∷◌, ◌++◌, length, take, sym, subst, arith}
use Rattle.std.proofs.lemmas.List.{take_more}
use Rattle.std.proofs.lemmas.List.Elements.{All-push}
use Rattle.pm_workers.proofs.Working.{take-none, take-all}
use Rattle.pm_rooms.proofs.running.all_done.Goals as goal

pub loop-person-init : goal.loop-person-init
loop-person-init g c = subst (λ l. All (λ p. length p.outcomes.items ≡ length p.lines.items) l) (sym (take-none c.args.people.now)) (λ k d lt. absurd (omega (arith, lt)))

pub loop-person-preserved : goal.loop-person-preserved
loop-person-preserved g c =
    let k = c.loop-person.person-index in
    let people = c.args.people.now in
    let person = c.person-item.result in
    let front : take (k + 1) people ≡ take k people ++ person ∷ [] = search (rules, take_more) in
    let done : length person.outcomes.items ≡ length person.lines.items = c.is_done-done.ensures (search rules) in
    subst (λ l. All (λ p. length p.outcomes.items ≡ length p.lines.items) l) (sym front)
    (All-push (λ p. length p.outcomes.items ≡ length p.lines.items) (take k people) person c.loop-person.invariant done)

pub returns : goal.returns
returns g c =
    let k = c.loop-person.person-index in
    let all : length c.args.people.now ≤ k = search rules in
    λ yes. subst (λ l. All (λ p. length p.outcomes.items ≡ length p.lines.items) l) (take-all c.args.people.now k all) c.loop-person.invariant
