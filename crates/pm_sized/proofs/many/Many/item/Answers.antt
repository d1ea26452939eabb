use Rattle.std.proofs.Common.{◌≡◌, ◌+◌, ◌-◌, ◌<◌, ◌≤◌, ap, sym, ◌∙◌, arith, length, get_or}
use Rattle.std.proofs.lemmas.Grind.{get_or_default_zero}
use Rattle.pm_sized.proofs.FindLaws.{around, item-within, item-at}
use Rattle.pm_sized.proofs.many.Many.item.Goals as goal

pub index-requires-3 : goal.index-requires-3
index-requires-3 g c =
    let s = c.args.self.now in
    let at = c.place-at.result in
    let ff = c.deref.ensures.value in
    let lt : at < length s.chunks.items = omega (arith, c.place-at.ensures.within, ap length ff, c.requires.laid.firsts_count) in
    let a = around s at c.index.result.now c.requires.laid lt c.index.ensures in
    let first : c.index-2.result.now ≡ get_or s.firsts.items at 0 = c.index-2.ensures ∙ get_or_default_zero s.firsts.items at c.index-2.result.now (omega (arith, lt, c.requires.laid.firsts_count)) in
    let low : get_or s.firsts.items at 0 ≤ c.args.i = omega (arith, c.place-at.ensures.at, ap (λ z. get_or z at 0) ff) in
    let below = item-within s at c.index.result.now c.requires.laid lt c.index.ensures c.args.i c.requires.within
    (λ h. omega (arith, c.place-at.ensures.next (omega (arith, h, ap length ff)), ap (λ z. get_or z (at + 1) 0) ff)) in
    omega (arith, first, low, below, a.first, ap (λ z. length z.items.items) c.deref-2.ensures, c.deref-2.result.now.items.ok.0)

pub returns : goal.returns
returns g c =
    let s = c.args.self.now in
    let at = c.place-at.result in
    let x = c.index-3.result.now in
    let j = c.args.i - c.index-2.result.now in
    let ff = c.deref.ensures.value in
    let lt : at < length s.chunks.items = omega (arith, c.place-at.ensures.within, ap length ff, c.requires.laid.firsts_count) in
    let a = around s at c.index.result.now c.requires.laid lt c.index.ensures in
    let first : c.index-2.result.now ≡ get_or s.firsts.items at 0 = c.index-2.ensures ∙ get_or_default_zero s.firsts.items at c.index-2.result.now (omega (arith, lt, c.requires.laid.firsts_count)) in
    let low : get_or s.firsts.items at 0 ≤ c.args.i = omega (arith, c.place-at.ensures.at, ap (λ z. get_or z at 0) ff) in
    let below = item-within s at c.index.result.now c.requires.laid lt c.index.ensures c.args.i c.requires.within
    (λ h. omega (arith, c.place-at.ensures.next (omega (arith, h, ap length ff)), ap (λ z. get_or z (at + 1) 0) ff)) in
    c.index-3.ensures ∙ (ap (λ z. get_or z.items.items j x) c.deref-2.ensures
    ∙ sym (item-at s at c.index.result.now c.args.i j x a (omega (arith, first, low, a.first)) (omega (arith, first, low, below, a.first))))
