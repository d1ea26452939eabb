use Rattle.std.proofs.Common.{ℕ, ◌≡◌, ◌+◌, ◌-◌, ◌≤◌, ◌++◌, ap, sym, ◌∙◌, subst, arith, length, get_or, take, length-append}
use Rattle.std.proofs.lemmas.Grind.{get_or_default_zero}
use Rattle.pm_sized.specs.declared.many.Many.{Many}
use Rattle.pm_sized.specs.Pairs.{many_pairs, each_pairs, parts_of, part_of, total_of, IsMany, Stands}
use Rattle.pm_sized.proofs.GroupLaws.{inside, stands-inside, group-few, group-steps}
use Rattle.pm_sized.proofs.groups.Groups.find.Goals as goal

pub find-found-requires-clause-laid : goal.find-found-requires-clause-laid
find-found-requires-clause-laid g c =
    let s = c.args.self.now in
    let h = c.requires.laid in
    let at = c.search-at.result in
    let lt : at ≤ length (parts_of s) = omega (arith, c.search-at.ensures.within, ap length c.deref.ensures.value, h.starts_count) in
    let P : Many g.row.T.Denot → Type 0 = IsMany in
    subst P (sym c.part.ensures) (inside s at h lt).laid

pub find-found-requires-clause-within : goal.find-found-requires-clause-within
find-found-requires-clause-within g c =
    let s = c.args.self.now in
    let h = c.requires.laid in
    let at = c.search-at.result in
    let ss = c.deref.ensures.value in
    let lt : at ≤ length (parts_of s) = omega (arith, c.search-at.ensures.within, ap length ss, h.starts_count) in
    let a = inside s at h lt in
    let start : c.index-start.result.now ≡ get_or s.starts.items at 0 = c.index-start.ensures ∙ get_or_default_zero s.starts.items at c.index-start.result.now (omega (arith, lt, h.starts_count)) in
    let low : get_or s.starts.items at 0 ≤ c.args.pos = omega (arith, c.search-at.ensures.at, ap (λ z. get_or z at 0) ss) in
    let below = a.end c.args.pos (omega (arith, c.if-pos-total.false, c.total-total.ensures, c.requires.within)) (λ l. omega (arith, c.search-at.ensures.next (omega (arith, l, ap length ss)), ap (λ z. get_or z (at + 1) 0) ss)) in
    omega (arith, below, start, low, a.start, ap (λ z. total_of (many_pairs z)) c.part.ensures)

pub overflow_add-result : goal.overflow_add-result
overflow_add-result g c =
    let s = c.args.self.now in
    let h = c.requires.laid in
    let at = c.search-at.result in
    let ss = c.deref.ensures.value in
    let lt : at ≤ length (parts_of s) = omega (arith, c.search-at.ensures.within, ap length ss, h.starts_count) in
    let a = inside s at h lt in
    let start : c.index-start.result.now ≡ get_or s.starts.items at 0 = c.index-start.ensures ∙ get_or_default_zero s.starts.items at c.index-start.result.now (omega (arith, lt, h.starts_count)) in
    let low : get_or s.starts.items at 0 ≤ c.args.pos = omega (arith, c.search-at.ensures.at, ap (λ z. get_or z at 0) ss) in
    let below = a.end c.args.pos (omega (arith, c.if-pos-total.false, c.total-total.ensures, c.requires.within)) (λ l. omega (arith, c.search-at.ensures.next (omega (arith, l, ap length ss)), ap (λ z. get_or z (at + 1) 0) ss)) in
    let first : c.index.result.now ≡ get_or s.firsts.items at 0 = c.index.ensures ∙ get_or_default_zero s.firsts.items at c.index.result.now (omega (arith, lt, h.firsts_count)) in
    let A = each_pairs (take at (parts_of s)) in
    let B = many_pairs c.part.result.now in
    let same = ap (λ z. length (many_pairs z)) c.part.ensures in
    omega (arith, first, a.first, c.find-found.ensures.found.within, same, ap length a.split, length-append A (many_pairs (part_of s at) ++ a.behind), length-append (many_pairs (part_of s at)) a.behind, group-few s h, h.bound)

pub returns-clause-found : goal.returns-clause-found
returns-clause-found g c =
    let s = c.args.self.now in
    let h = c.requires.laid in
    let at = c.search-at.result in
    let ss = c.deref.ensures.value in
    let lt : at ≤ length (parts_of s) = omega (arith, c.search-at.ensures.within, ap length ss, h.starts_count) in
    let a = inside s at h lt in
    let start : c.index-start.result.now ≡ get_or s.starts.items at 0 = c.index-start.ensures ∙ get_or_default_zero s.starts.items at c.index-start.result.now (omega (arith, lt, h.starts_count)) in
    let low : get_or s.starts.items at 0 ≤ c.args.pos = omega (arith, c.search-at.ensures.at, ap (λ z. get_or z at 0) ss) in
    let below = a.end c.args.pos (omega (arith, c.if-pos-total.false, c.total-total.ensures, c.requires.within)) (λ l. omega (arith, c.search-at.ensures.next (omega (arith, l, ap length ss)), ap (λ z. get_or z (at + 1) 0) ss)) in
    let first : c.index.result.now ≡ get_or s.firsts.items at 0 = c.index.ensures ∙ get_or_default_zero s.firsts.items at c.index.result.now (omega (arith, lt, h.firsts_count)) in
    let f = c.find-found.result in
    let P : Many g.row.T.Denot → Type 0 = λ z. Stands (many_pairs z) (c.args.pos - c.index-start.result.now) f.index f.start in
    let Q : ℕ → Type 0 = λ z. Stands (many_pairs (part_of s at)) (c.args.pos - z) f.index f.start in
    let there = subst P c.part.ensures c.find-found.ensures.found in
    stands-inside s at (part_of s at) c.args.pos f.index f.start _ _ a low below (subst Q start there) (omega (arith, first)) (omega (arith, start))

pub returns-clause-steps : goal.returns-clause-steps
returns-clause-steps g c =
    let s = c.args.self.now in
    let h = c.requires.laid in
    let at = c.search-at.result in
    let ss = c.deref.ensures.value in
    let lt : at ≤ length (parts_of s) = omega (arith, c.search-at.ensures.within, ap length ss, h.starts_count) in
    group-steps s at c.part.result.now (length c.deref.result.now) c.args.steps.now c.search-at.new.steps c.find-found.new.steps h lt c.part.ensures (ap length ss) c.search-at.ensures.steps c.find-found.ensures.steps c.find-found.ensures.halves
