use Rattle.std.proofs.Common.{◌≡◌, ◌++◌, ◌+◌, ◌<◌, [], ◌∷◌, List, ℕ, length, map, take, get_or, sym, subst, ap, arith, ◌∙◌, rules}
use Rattle.std.proofs.lemmas.List.{take_more, length-map, get_or-map}
use Rattle.pm_kept.specs.Behind.{Behind}
use Rattle.pm_kept.specs.Opens.{IsNotAccepted}
use Rattle.pm_kept.proofs.Opens.{replayed, not_replayed}
use Rattle.pm_kept.proofs.opening.replay.Goals as goal

pub loop-line-preserved : goal.loop-line-preserved
loop-line-preserved g c =
    let m = g.S.Keepable.means in
    let new = map (λ line. line.items) c.args.lines.now in
    let i = c.loop-line.line-index in
    let item = c.line-item.result in
    let low : i < length new = search (rules, length-map) in
    let there : get_or c.args.lines.now i item ≡ item = search rules in
    let line = c.deref.result.now in
    let here : get_or new i [] ≡ line = get_or-map (λ line. line.items) c.args.lines.now i item [] (search (rules, length-map)) ∙ ap (λ line. line.items) there ∙ sym c.deref.ensures.value in
    let more : take (i + 1) new ≡ take i new ++ line ∷ [] = take_more new i [] low ∙ ap (λ (l : List ℕ). take i new ++ l ∷ []) here in
    let was = c.loop-line.service in
    let next = c.accept.new.service in
    record {
      stands = subst (λ (ls : List (List ℕ)). Behind m ls m.start next) (sym more)
          (replayed m g.met.S.Keepable.laws (take i new) was line _ next c.loop-line.invariant.stands c.in_ok-is_accepted.ensures.tried (search rules));
      good = c.accept.ensures.good;
      count = omega (arith, c.loop-line.invariant.count);
    }

pub returns-then-not-is_accepted-clause-fails : goal.returns-then-not-is_accepted-clause-fails
returns-then-not-is_accepted-clause-fails g c =
    let m = g.S.Keepable.means in
    let new = map (λ line. line.items) c.args.lines.now in
    let i = c.loop-line.line-index in
    let item = c.line-item.result in
    let low : i < length new = search (rules, length-map) in
    let there : get_or c.args.lines.now i item ≡ item = search rules in
    let line = c.deref.result.now in
    let here : get_or new i [] ≡ line = get_or-map (λ line. line.items) c.args.lines.now i item [] (search (rules, length-map)) ∙ ap (λ line. line.items) there ∙ sym c.deref.ensures.value in
    let told = not_replayed m new i c.loop-line.service line _ c.accept.new.service low here c.loop-line.invariant.stands c.in_ok-is_accepted.ensures.tried (search rules) in
    let same : i + 1 ≡ c.loop-line.count + 1 = omega (arith, c.loop-line.invariant.count) in
    subst (λ (n : ℕ). IsNotAccepted m new n) same told
