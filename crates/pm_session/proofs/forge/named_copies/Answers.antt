use Rattle.std.proofs.Common.{◌≡◌, ◌+◌, ◌++◌, ◌∷◌, [], ◌∙◌, take, length, rules, arith}
use Rattle.std.proofs.lemmas.List.{take_more, length-take-le}
use Rattle.pm_session.proofs.Forging.{push-named}
use Rattle.pm_session.proofs.forge.named_copies.Goals as goal

pub loop-change-preserved : goal.loop-change-preserved
loop-change-preserved g c =
    let k = c.loop-change.change-index in
    let steps = c.args.steps.now in
    let more : take (k + 1) steps ≡ take k steps ++ c.change-item.result ∷ [] = search (rules, take_more) in
    let size : length (take k steps) ≡ k = search (rules, length-take-le) in
    let last : c.loop-change.last ≡ c.args.serial + k = c.loop-change.invariant.1 in (
      c.in_ok-push.ensures.ok ∙ push-named c.args.client c.args.serial k c.loop-change.last steps c.loop-change.all c.change-item.result c.in_ok-copy.field-0
          c.loop-change.invariant.0 size last c.in_ok-copy.ensures more,
      omega (arith, last),
    )
