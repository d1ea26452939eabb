use Rattle.std.proofs.Common.{◌≡◌, ◌+◌, ◌-◌, ◌≤◌, ap, sym, ◌∙◌, subst, arith, length, get_or}
use Rattle.std.proofs.lemmas.Grind.{get_or_default_zero}
use Rattle.pm_sized.specs.declared.many.Many.{Many}
use Rattle.pm_sized.specs.Pairs.{many_pairs, parts_of, part_of, IsMany}
use Rattle.pm_sized.proofs.GroupLaws.{inside, item-inside}
use Rattle.pm_sized.proofs.groups.Groups.item.Goals as goal

pub item-requires-clause-laid : goal.item-requires-clause-laid
item-requires-clause-laid g c =
    let s = c.args.self.now in
    let h = c.requires.laid in
    let at = c.place-at.result in
    let lt : at ≤ length (parts_of s) = omega (arith, c.place-at.ensures.within, ap length c.deref.ensures.value, h.firsts_count) in
    let P : Many g.row.T.Denot → Type 0 = IsMany in
    subst P (sym c.part.ensures) (inside s at h lt).laid

pub item-requires-clause-within : goal.item-requires-clause-within
item-requires-clause-within g c =
    let s = c.args.self.now in
    let h = c.requires.laid in
    let at = c.place-at.result in
    let ff = c.deref.ensures.value in
    let lt : at ≤ length (parts_of s) = omega (arith, c.place-at.ensures.within, ap length ff, h.firsts_count) in
    let a = inside s at h lt in
    let first : c.index.result.now ≡ get_or s.firsts.items at 0 = c.index.ensures ∙ get_or_default_zero s.firsts.items at c.index.result.now (omega (arith, lt, h.firsts_count)) in
    let low : get_or s.firsts.items at 0 ≤ c.args.i = omega (arith, c.place-at.ensures.at, ap (λ z. get_or z at 0) ff) in
    let below = a.last c.args.i c.requires.within (λ l. omega (arith, c.place-at.ensures.next (omega (arith, l, ap length ff)), ap (λ z. get_or z (at + 1) 0) ff)) in
    omega (arith, below, first, low, a.first, ap (λ z. length (many_pairs z)) c.part.ensures)

pub returns : goal.returns
returns g c =
    let s = c.args.self.now in
    let h = c.requires.laid in
    let at = c.place-at.result in
    let ff = c.deref.ensures.value in
    let lt : at ≤ length (parts_of s) = omega (arith, c.place-at.ensures.within, ap length ff, h.firsts_count) in
    let a = inside s at h lt in
    let first : c.index.result.now ≡ get_or s.firsts.items at 0 = c.index.ensures ∙ get_or_default_zero s.firsts.items at c.index.result.now (omega (arith, lt, h.firsts_count)) in
    let low : get_or s.firsts.items at 0 ≤ c.args.i = omega (arith, c.place-at.ensures.at, ap (λ z. get_or z at 0) ff) in
    let below = a.last c.args.i c.requires.within (λ l. omega (arith, c.place-at.ensures.next (omega (arith, l, ap length ff)), ap (λ z. get_or z (at + 1) 0) ff)) in
    let x = c.item.result.now in
    let j = c.args.i - c.index.result.now in
    c.item.ensures ∙ (ap (λ z. (get_or (many_pairs z) j (x, 0)).0) c.part.ensures
    ∙ sym (item-inside s at (part_of s at) c.args.i j x a (omega (arith, first, low, a.first)) (omega (arith, first, low, below, a.first))))
