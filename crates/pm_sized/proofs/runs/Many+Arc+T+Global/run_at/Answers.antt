use Rattle.std.proofs.Common.{◌≡◌, ◌+◌, ◌-◌, ◌<◌, ◌≤◌, ◌++◌, ap, sym, ◌∙◌, length, take, drop, get_or, arith}
use Rattle.std.proofs.lemmas.Grind.{get_or_default_zero}
use Rattle.std.specs.Arc.{arc_value}
use Rattle.pm_sized.specs.Pairs.{chunk_pairs, all_pairs, many_pairs, total_of}
use Rattle.pm_sized.specs.Parts.{part, chunk_values}
use Rattle.pm_sized.proofs.PairLaws.{total_of-append}
use Rattle.pm_sized.proofs.FindLaws.{around, item-within, chunk-size}
use Rattle.pm_sized.proofs.PartLaws.{part-all, length-values}
use Rattle.pm_sized.proofs.LastLaws.{chunk-along}
use Rattle.pm_sized.proofs.AppendLaws.{run-of}
use Rattle.pm_sized.proofs.runs.Many+Arc+T+Global.run_at.Goals as goal

pub returns-then-end-count : goal.returns-then-end-count
returns-then-end-count g c =
    let s = c.args.self.now in
    let i = c.args.i in
    let at = c.place-at.result in
    let ch = c.index-chunk.result.now in
    let v = arc_value ch in
    let ff = c.deref.ensures.value in
    let laid = c.requires.laid in
    let lt : at < length s.chunks.items = omega (arith, c.place-at.ensures.within, ap length ff, laid.firsts_count) in
    let a = around s at ch laid lt c.index-chunk.ensures in
    let first : c.index.result.now ≡ get_or s.firsts.items at 0 = c.index.ensures ∙ get_or_default_zero s.firsts.items at c.index.result.now (omega (arith, lt, laid.firsts_count)) in
    let low : get_or s.firsts.items at 0 ≤ i = omega (arith, c.place-at.ensures.at, ap (λ z. get_or z at 0) ff) in
    let below = item-within s at ch laid lt c.index-chunk.ensures i (omega (arith, c.requires.some, c.requires.within, length-values (many_pairs s)))
    (λ h. omega (arith, c.place-at.ensures.next (omega (arith, h, ap length ff)), ap (λ z. get_or z (at + 1) 0) ff)) in
    let count : c.len-count.result ≡ length v.items.items = c.len-count.ensures ∙ (c.deref-2.result.now.items.ok.0 ∙ ap (λ z. length z.items.items) c.deref-2.ensures) in
    let end = c.min-end.result in
    let f = arc_value c.in_ok-try_clone.field-0 in
    let e : f ≡ v = c.in_ok-try_clone.ensures in
    let values : chunk_values f ≡ part 0 end (chunk_values v) = ap chunk_values e ∙ sym (part-all end (chunk_values v) (omega (arith, length-values (chunk_pairs v), a.count, count, c.if-end-count.true))) in
    run-of s at ch i 0 end c.args.to f a (omega (arith, c.if-from-eq0.true, first, low, a.first)) (omega arith) (omega (arith, count, c.if-end-count.true))
    (omega (arith, c.min-end.ensures, c.if-from-eq0.true, c.requires.some)) (chunk-along v f e a.chunk) (omega (arith, ap (λ z. length z.items.items) e, count, c.if-end-count.true)) values

pub run-requires-clause-source : goal.run-requires-clause-source
run-requires-clause-source g c =
    let s = c.args.self.now in
    let i = c.args.i in
    let at = c.place-at.result in
    let ch = c.index-chunk.result.now in
    let v = arc_value ch in
    let ff = c.deref.ensures.value in
    let laid = c.requires.laid in
    let lt : at < length s.chunks.items = omega (arith, c.place-at.ensures.within, ap length ff, laid.firsts_count) in
    let a = around s at ch laid lt c.index-chunk.ensures in
    chunk-along v c.deref-3.result.now c.deref-3.ensures a.chunk

pub run-requires-clause-bound : goal.run-requires-clause-bound
run-requires-clause-bound g c =
    let s = c.args.self.now in
    let i = c.args.i in
    let at = c.place-at.result in
    let ch = c.index-chunk.result.now in
    let v = arc_value ch in
    let ff = c.deref.ensures.value in
    let laid = c.requires.laid in
    let lt : at < length s.chunks.items = omega (arith, c.place-at.ensures.within, ap length ff, laid.firsts_count) in
    let a = around s at ch laid lt c.index-chunk.ensures in
    let A = all_pairs (take at s.chunks.items) in
    let B = chunk_pairs v in
    let C = all_pairs (drop (at + 1) s.chunks.items) in
    omega (arith, ap (λ z. z.size) c.deref-3.ensures, chunk-size v a.chunk.counted, laid.total, laid.bound, ap total_of a.split, total_of-append A (B ++ C), total_of-append B C)

pub run-requires-clause-order : goal.run-requires-clause-order
run-requires-clause-order g c =
    let s = c.args.self.now in
    let i = c.args.i in
    let at = c.place-at.result in
    let ch = c.index-chunk.result.now in
    let v = arc_value ch in
    let ff = c.deref.ensures.value in
    let laid = c.requires.laid in
    let lt : at < length s.chunks.items = omega (arith, c.place-at.ensures.within, ap length ff, laid.firsts_count) in
    let a = around s at ch laid lt c.index-chunk.ensures in
    let first : c.index.result.now ≡ get_or s.firsts.items at 0 = c.index.ensures ∙ get_or_default_zero s.firsts.items at c.index.result.now (omega (arith, lt, laid.firsts_count)) in
    let low : get_or s.firsts.items at 0 ≤ i = omega (arith, c.place-at.ensures.at, ap (λ z. get_or z at 0) ff) in
    let below = item-within s at ch laid lt c.index-chunk.ensures i (omega (arith, c.requires.some, c.requires.within, length-values (many_pairs s)))
    (λ h. omega (arith, c.place-at.ensures.next (omega (arith, h, ap length ff)), ap (λ z. get_or z (at + 1) 0) ff)) in
    let count : c.len-count.result ≡ length v.items.items = c.len-count.ensures ∙ (c.deref-2.result.now.items.ok.0 ∙ ap (λ z. length z.items.items) c.deref-2.ensures) in
    let end = c.min-end.result in
    omega (arith, c.min-end.ensures, count, below, first, low, a.first, c.requires.some)

pub returns : goal.returns
returns g c =
    let s = c.args.self.now in
    let i = c.args.i in
    let at = c.place-at.result in
    let ch = c.index-chunk.result.now in
    let v = arc_value ch in
    let ff = c.deref.ensures.value in
    let laid = c.requires.laid in
    let lt : at < length s.chunks.items = omega (arith, c.place-at.ensures.within, ap length ff, laid.firsts_count) in
    let a = around s at ch laid lt c.index-chunk.ensures in
    let first : c.index.result.now ≡ get_or s.firsts.items at 0 = c.index.ensures ∙ get_or_default_zero s.firsts.items at c.index.result.now (omega (arith, lt, laid.firsts_count)) in
    let low : get_or s.firsts.items at 0 ≤ i = omega (arith, c.place-at.ensures.at, ap (λ z. get_or z at 0) ff) in
    let below = item-within s at ch laid lt c.index-chunk.ensures i (omega (arith, c.requires.some, c.requires.within, length-values (many_pairs s)))
    (λ h. omega (arith, c.place-at.ensures.next (omega (arith, h, ap length ff)), ap (λ z. get_or z (at + 1) 0) ff)) in
    let count : c.len-count.result ≡ length v.items.items = c.len-count.ensures ∙ (c.deref-2.result.now.items.ok.0 ∙ ap (λ z. length z.items.items) c.deref-2.ensures) in
    let end = c.min-end.result in
    let f = arc_value c.in_ok-run.field-0 in
    let from = i - c.index.result.now in
    let o : from < end = omega (arith, c.min-end.ensures, count, below, first, low, a.first, c.requires.some) in
    run-of s at ch i from end c.args.to f a (omega (arith, first, low, a.first)) (omega (arith, o)) (omega (arith, c.min-end.ensures, count))
    (omega (arith, c.min-end.ensures, o, c.requires.some)) c.in_ok-run.ensures.chunk c.in_ok-run.ensures.count (c.in_ok-run.ensures.values ∙ ap (λ z. part from end (chunk_values z)) c.deref-3.ensures)
