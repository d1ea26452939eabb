use Rattle.std.proofs.Common.{◌++◌, map, refl, ap, ◌∙◌, arith}
use Rattle.std.specs.Prelude.{Some}
use Rattle.serde_json.specs.View.{view, items_of, items_view}
use Rattle.pm_json.proofs.Lists.{next-more, all-done}
use Rattle.pm_json.proofs.value.RefJsonJsonRef.items.Goals as goal

pub loop-item-init : goal.loop-item-init
loop-item-init c = ap (λ l. map (λ r. view r.now) l ++ map view c.deref-item-items.result.now) c.in_ok-refs.ensures.items

pub loop-item-preserved : goal.loop-item-preserved
loop-item-preserved c =
    let l = c.loop-item in
    let vs = c.deref-item-items.result.now in
    next-more (λ r. view r.now) view l.refs.items c.push.new.self.items _ vs l.item-index c.item-item.result (map view vs) c.loop-item-test.true c.item-item.is c.in_ok-push.ensures.items refl l.invariant

pub returns : goal.returns
returns c =
    let l = c.loop-item in
    let vs = c.deref-item-items.result.now in
    ap (λ xs. Some (items_of xs)) (all-done (λ r. view r.now) view l.refs.items vs l.item-index (map view vs) (omega (arith, c.loop-item-test.false)) l.invariant)
    ∙ ap (λ xs. Some (items_view xs)) c.deref-item-items.ensures.value ∙ c.in-Some.ensures
