use Rattle.std.proofs.Common.{rules, ◌≡◌, ◌<◌, ◌+◌, length, drop, ◌∷◌, ◌∙◌, ap, sym}
use Rattle.std.proofs.lemmas.List.{drop_more}
use Rattle.pm_workers.proofs.MergeLaws.{call-listed, length-set}
use Rattle.pm_workers.proofs.order.list_calls.Goals as goal

pub loop-past-preserved : goal.loop-past-preserved
loop-past-preserved g c =
    let split : drop c.loop-past.past-index c.args.history.now ≡ c.past-item.result ∷ drop (c.loop-past.past-index + 1) c.args.history.now =
    drop_more c.args.history.now c.loop-past.past-index c.past-item.result (search rules) ∙ ap (λ p. p ∷ drop (c.loop-past.past-index + 1) c.args.history.now) (sym c.past-item.is) in
    let within : c.past-item.result.seat < length c.loop-past.left.items = search rules in
    let lists = c.in_ok-left.ensures.lists in
    let leaves = c.in_ok-left.ensures.leaves in (
      call-listed (λ past. past.seat) (λ x. x.now) _ _ c.loop-past.left.items c.past-item.result c.index.result.now c.in_ok-left.field-0 _ _ _ split within (search rules) leaves lists c.loop-past.invariant.0,
      length-set c.loop-past.left.items c.past-item.result.seat c.in_ok-left.field-0 ∙ c.loop-past.invariant.1,
    )
