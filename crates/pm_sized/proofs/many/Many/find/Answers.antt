use Rattle.std.proofs.Common.{◌≡◌, ◌+◌, ◌<◌, ap, ◌∙◌, arith, length, get_or}
use Rattle.std.proofs.lemmas.Grind.{get_or_default_zero}
use Rattle.std.specs.Arc.{arc_value}
use Rattle.pm_sized.proofs.FindLaws.{around, found-at, both-bound}
use Rattle.pm_sized.proofs.many.Many.find.Goals as goal

pub search-i-requires-clause-some : goal.search-i-requires-clause-some
search-i-requires-clause-some g c =
    let s = c.args.self.now in
    let at = c.search-at.result in
    let ch = c.index-chunk.result.now in
    let ss = c.deref.ensures.value in
    let lt : at < length s.chunks.items = omega (arith, c.search-at.ensures.within, ap length ss, c.requires.laid.starts_count) in
    let a = around s at ch c.requires.laid lt c.index-chunk.ensures in
    let inner : c.deref-3.result.now ≡ (arc_value ch).starts.items = c.deref-3.ensures.value ∙ ap (λ z. z.starts.items) c.deref-2.ensures in
    omega (arith, ap length inner, a.starts_count, a.chunk.some)

pub search-i-requires-clause-first : goal.search-i-requires-clause-first
search-i-requires-clause-first g c =
    let s = c.args.self.now in
    let at = c.search-at.result in
    let ch = c.index-chunk.result.now in
    let ss = c.deref.ensures.value in
    let lt : at < length s.chunks.items = omega (arith, c.search-at.ensures.within, ap length ss, c.requires.laid.starts_count) in
    let a = around s at ch c.requires.laid lt c.index-chunk.ensures in
    let inner : c.deref-3.result.now ≡ (arc_value ch).starts.items = c.deref-3.ensures.value ∙ ap (λ z. z.starts.items) c.deref-2.ensures in
    omega (arith, ap (λ z. get_or z 0 0) inner, a.first_start)

pub overflow_add-result : goal.overflow_add-result
overflow_add-result g c =
    let s = c.args.self.now in
    let at = c.search-at.result in
    let ch = c.index-chunk.result.now in
    let ss = c.deref.ensures.value in
    let lt : at < length s.chunks.items = omega (arith, c.search-at.ensures.within, ap length ss, c.requires.laid.starts_count) in
    let a = around s at ch c.requires.laid lt c.index-chunk.ensures in
    let inner : c.deref-3.result.now ≡ (arc_value ch).starts.items = c.deref-3.ensures.value ∙ ap (λ z. z.starts.items) c.deref-2.ensures in
    let first : c.index.result.now ≡ get_or s.firsts.items at 0 = c.index.ensures ∙ get_or_default_zero s.firsts.items at c.index.result.now (omega (arith, lt, c.requires.laid.firsts_count)) in
    omega (arith, first, a.first, a.fits, c.search-i.ensures.within, ap length inner, a.starts_count, c.requires.laid.len, c.requires.laid.few)

pub returns-clause-found : goal.returns-clause-found
returns-clause-found g c =
    let s = c.args.self.now in
    let at = c.search-at.result in
    let ch = c.index-chunk.result.now in
    let ss = c.deref.ensures.value in
    let lt : at < length s.chunks.items = omega (arith, c.search-at.ensures.within, ap length ss, c.requires.laid.starts_count) in
    let a = around s at ch c.requires.laid lt c.index-chunk.ensures in
    let inner : c.deref-3.result.now ≡ (arc_value ch).starts.items = c.deref-3.ensures.value ∙ ap (λ z. z.starts.items) c.deref-2.ensures in
    let first : c.index.result.now ≡ get_or s.firsts.items at 0 = c.index.ensures ∙ get_or_default_zero s.firsts.items at c.index.result.now (omega (arith, lt, c.requires.laid.firsts_count)) in
    let start : c.index-start.result.now ≡ get_or s.starts.items at 0 = c.index-start.ensures ∙ get_or_default_zero s.starts.items at c.index-start.result.now (omega (arith, lt, c.requires.laid.starts_count)) in
    let i = c.search-i.result in
    let in-chunk : i < length (arc_value ch).starts.items = omega (arith, c.search-i.ensures.within, ap length inner) in
    let behind : c.index-2.result.now ≡ get_or (arc_value ch).starts.items i 0 = c.index-2.ensures
    ∙ (ap (λ z. get_or z.starts.items i c.index-2.result.now) c.deref-4.ensures ∙ get_or_default_zero (arc_value ch).starts.items i c.index-2.result.now in-chunk) in
    found-at s at ch c.requires.laid lt c.index-chunk.ensures c.args.pos i _ _
    (omega (arith, c.if-pos-self.false, c.requires.laid.total, c.requires.within))
    (omega (arith, c.search-at.ensures.at, ap (λ z. get_or z at 0) ss))
    (λ h. omega (arith, c.search-at.ensures.next (omega (arith, h, ap length ss)), ap (λ z. get_or z (at + 1) 0) ss))
    in-chunk
    (omega (arith, c.search-i.ensures.at, ap (λ z. get_or z i 0) inner, start))
    (λ h. omega (arith, c.search-i.ensures.next (omega (arith, h, ap length inner)), ap (λ z. get_or z (i + 1) 0) inner, start))
    (omega (arith, first))
    (omega (arith, start, behind))

pub returns-clause-steps : goal.returns-clause-steps
returns-clause-steps g c =
    let s = c.args.self.now in
    let at = c.search-at.result in
    let ch = c.index-chunk.result.now in
    let ss = c.deref.ensures.value in
    let lt : at < length s.chunks.items = omega (arith, c.search-at.ensures.within, ap length ss, c.requires.laid.starts_count) in
    let a = around s at ch c.requires.laid lt c.index-chunk.ensures in
    let inner : c.deref-3.result.now ≡ (arc_value ch).starts.items = c.deref-3.ensures.value ∙ ap (λ z. z.starts.items) c.deref-2.ensures in
    both-bound s.chunks.items (length c.deref.result.now) (length c.deref-3.result.now) c.args.steps.now c.search-at.new.steps c.search-i.new.steps c.requires.laid.chunks
    (omega (arith, ap length ss, c.requires.laid.starts_count)) (omega (arith, ap length inner, a.starts_count, a.chunk.most))
    c.search-at.ensures.steps c.search-i.ensures.steps

pub returns-clause-halves : goal.returns-clause-halves
returns-clause-halves g c = λ k few.
    let s = c.args.self.now in
    let at = c.search-at.result in
    let ch = c.index-chunk.result.now in
    let ss = c.deref.ensures.value in
    let lt : at < length s.chunks.items = omega (arith, c.search-at.ensures.within, ap length ss, c.requires.laid.starts_count) in
    let a = around s at ch c.requires.laid lt c.index-chunk.ensures in
    let inner : c.deref-3.result.now ≡ (arc_value ch).starts.items = c.deref-3.ensures.value ∙ ap (λ z. z.starts.items) c.deref-2.ensures in
    let one = c.search-at.ensures.steps k (omega (arith, few, ap length ss, c.requires.laid.starts_count)) in
    let two = c.search-i.ensures.steps 6 (omega (arith, ap length inner, a.starts_count, a.chunk.most)) in
    omega (arith, one, two)
