use Rattle.std.proofs.Common.{◌≡◌, ◌+◌, ◌-◌, ◌<◌, ◌≤◌, ap, sym, ◌∙◌, arith, length, get_or}
use Rattle.std.proofs.lemmas.Grind.{get_or_default_zero}
use Rattle.std.specs.Arc.{arc_value}
use Rattle.pm_sized.specs.Pairs.{chunk_pairs}
use Rattle.pm_sized.proofs.FindLaws.{around, item-within, measure-among}
use Rattle.pm_sized.proofs.LastLaws.{chunk-along}
use Rattle.pm_sized.proofs.many.Many.measure.Goals as goal

pub measure-requires-clause-counted : goal.measure-requires-clause-counted
measure-requires-clause-counted g c =
    let s = c.args.self.now in
    let at = c.place-at.result in
    let lt : at < length s.chunks.items = omega (arith, c.place-at.ensures.within, ap length c.deref.ensures.value, c.requires.laid.firsts_count) in
    let a = around s at c.index.result.now c.requires.laid lt c.index.ensures in
    let k = chunk-along (arc_value c.index.result.now) c.deref-2.result.now c.deref-2.ensures a.chunk in
    k.counted

pub measure-requires-clause-within : goal.measure-requires-clause-within
measure-requires-clause-within g c =
    let s = c.args.self.now in
    let at = c.place-at.result in
    let ff = c.deref.ensures.value in
    let lt : at < length s.chunks.items = omega (arith, c.place-at.ensures.within, ap length ff, c.requires.laid.firsts_count) in
    let a = around s at c.index.result.now c.requires.laid lt c.index.ensures in
    let first : c.index-2.result.now ≡ get_or s.firsts.items at 0 = c.index-2.ensures ∙ get_or_default_zero s.firsts.items at c.index-2.result.now (omega (arith, lt, c.requires.laid.firsts_count)) in
    let low : get_or s.firsts.items at 0 ≤ c.args.i = omega (arith, c.place-at.ensures.at, ap (λ z. get_or z at 0) ff) in
    let below = item-within s at c.index.result.now c.requires.laid lt c.index.ensures c.args.i c.requires.within
    (λ h. omega (arith, c.place-at.ensures.next (omega (arith, h, ap length ff)), ap (λ z. get_or z (at + 1) 0) ff)) in
    omega (arith, first, low, below, a.first, ap (λ z. length z.items.items) c.deref-2.ensures)

pub returns-clause-is : goal.returns-clause-is
returns-clause-is g c x =
    let s = c.args.self.now in
    let at = c.place-at.result in
    let j = c.args.i - c.index-2.result.now in
    let ff = c.deref.ensures.value in
    let lt : at < length s.chunks.items = omega (arith, c.place-at.ensures.within, ap length ff, c.requires.laid.firsts_count) in
    let a = around s at c.index.result.now c.requires.laid lt c.index.ensures in
    let first : c.index-2.result.now ≡ get_or s.firsts.items at 0 = c.index-2.ensures ∙ get_or_default_zero s.firsts.items at c.index-2.result.now (omega (arith, lt, c.requires.laid.firsts_count)) in
    let low : get_or s.firsts.items at 0 ≤ c.args.i = omega (arith, c.place-at.ensures.at, ap (λ z. get_or z at 0) ff) in
    let below = item-within s at c.index.result.now c.requires.laid lt c.index.ensures c.args.i c.requires.within
    (λ h. omega (arith, c.place-at.ensures.next (omega (arith, h, ap length ff)), ap (λ z. get_or z (at + 1) 0) ff)) in
    c.measure.ensures.is x ∙ (ap (λ z. (get_or (chunk_pairs z) j (x, 0)).1) c.deref-2.ensures
    ∙ sym (measure-among s at c.index.result.now c.args.i j x a (omega (arith, first, low, a.first)) (omega (arith, first, low, below, a.first))))
