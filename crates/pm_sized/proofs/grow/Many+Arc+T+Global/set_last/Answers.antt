use Rattle.std.proofs.Common.{◌≡◌, ◌+◌, ◌-◌, ◌++◌, ap, ◌∙◌, length, get_or, arith}
use Rattle.std.specs.Arc.{arc_value}
use Rattle.pm_sized.specs.Parts.{part, values_in, chunk_values}
use Rattle.pm_sized.proofs.LastLaws.{chunk-along}
use Rattle.pm_sized.proofs.GrowLaws.{last-one, last-size, made-room, set-chunk, set-room, set-few, set-values}
use Rattle.pm_sized.proofs.grow.Many+Arc+T+Global.set_last.Goals as goal

pub overflow_sub-len-2 : goal.overflow_sub-len-2
overflow_sub-len-2 g c =
    let s = c.args.self.now in
    let cs = s.chunks.items in
    let last = c.index-last.result.now in
    let n : c.len.result - 1 ≡ length cs - 1 = omega (arith, c.len.ensures, s.chunks.ok.0) in
    let e : last ≡ get_or cs (length cs - 1) last = c.index-last.ensures ∙ ap (λ z. get_or cs z last) n in
    let laid = c.requires.laid in
    let k = last-one s last laid c.requires.some e in
    omega (arith, c.len-2.ensures, c.deref-2.result.now.items.ok.0, ap (λ z. length z.items.items) c.deref-2.ensures, k.some)

pub append_run-requires-clause-source : goal.append_run-requires-clause-source
append_run-requires-clause-source g c =
    let s = c.args.self.now in
    let cs = s.chunks.items in
    let last = c.index-last.result.now in
    let n : c.len.result - 1 ≡ length cs - 1 = omega (arith, c.len.ensures, s.chunks.ok.0) in
    let e : last ≡ get_or cs (length cs - 1) last = c.index-last.ensures ∙ ap (λ z. get_or cs z last) n in
    let laid = c.requires.laid in
    let k = last-one s last laid c.requires.some e in
    (chunk-along (arc_value last) c.deref.result.now c.deref.ensures k).counted

pub append_run-requires-clause-room : goal.append_run-requires-clause-room
append_run-requires-clause-room g c =
    let s = c.args.self.now in
    let cs = s.chunks.items in
    let last = c.index-last.result.now in
    let n : c.len.result - 1 ≡ length cs - 1 = omega (arith, c.len.ensures, s.chunks.ok.0) in
    let e : last ≡ get_or cs (length cs - 1) last = c.index-last.ensures ∙ ap (λ z. get_or cs z last) n in
    let laid = c.requires.laid in
    let k = last-one s last laid c.requires.some e in
    omega (arith, c.new-made.ensures.size, ap (λ z. z.size) c.deref.ensures, last-size s last laid c.requires.some e)

pub push-requires-clause-room : goal.push-requires-clause-room
push-requires-clause-room g c =
    let s = c.args.self.now in
    let cs = s.chunks.items in
    let last = c.index-last.result.now in
    let n : c.len.result - 1 ≡ length cs - 1 = omega (arith, c.len.ensures, s.chunks.ok.0) in
    let e : last ≡ get_or cs (length cs - 1) last = c.index-last.ensures ∙ ap (λ z. get_or cs z last) n in
    let laid = c.requires.laid in
    let k = last-one s last laid c.requires.some e in
    let m = c.len-2.result - 1 in
    let count : m + 1 ≡ length (arc_value last).items.items = omega (arith, c.len-2.ensures, c.deref-2.result.now.items.ok.0, ap (λ z. length z.items.items) c.deref-2.ensures, k.some) in
    let seen = c.deref.result.now in
    let made = c.append_run.new.self in
    let v : chunk_values made ≡ part 0 m (chunk_values seen) = c.in_ok-append_run.ensures.values ∙ ap (λ z. values_in z ++ part 0 m (chunk_values seen)) c.new-made.ensures.pairs in
    let made-counts = c.in_ok-append_run.ensures.counted in
    made-room s last laid c.requires.some e seen made c.args.item m c.args.measure c.deref.ensures count v made-counts c.requires.room

pub replace_last-requires-clause-chunk : goal.replace_last-requires-clause-chunk
replace_last-requires-clause-chunk g c =
    let s = c.args.self.now in
    let cs = s.chunks.items in
    let last = c.index-last.result.now in
    let n : c.len.result - 1 ≡ length cs - 1 = omega (arith, c.len.ensures, s.chunks.ok.0) in
    let e : last ≡ get_or cs (length cs - 1) last = c.index-last.ensures ∙ ap (λ z. get_or cs z last) n in
    let laid = c.requires.laid in
    let k = last-one s last laid c.requires.some e in
    let m = c.len-2.result - 1 in
    let count : m + 1 ≡ length (arc_value last).items.items = omega (arith, c.len-2.ensures, c.deref-2.result.now.items.ok.0, ap (λ z. length z.items.items) c.deref-2.ensures, k.some) in
    let seen = c.deref.result.now in
    let made = c.append_run.new.self in
    let v : chunk_values made ≡ part 0 m (chunk_values seen) = c.in_ok-append_run.ensures.values ∙ ap (λ z. values_in z ++ part 0 m (chunk_values seen)) c.new-made.ensures.pairs in
    let made-counts = c.in_ok-append_run.ensures.counted in
    let many : length made.items.items ≡ m = omega (arith, c.in_ok-append_run.ensures.count, c.new-made.ensures.none) in
    set-chunk s last laid c.requires.some e seen made c.args.item m c.args.measure c.deref.ensures count v made-counts c.requires.room c.in_ok-new.field-0 c.push.new.self c.in_ok-new.ensures.ok c.in_ok-push.ensures.ok many

pub replace_last-requires-clause-few : goal.replace_last-requires-clause-few
replace_last-requires-clause-few g c =
    let s = c.args.self.now in
    let cs = s.chunks.items in
    let last = c.index-last.result.now in
    let n : c.len.result - 1 ≡ length cs - 1 = omega (arith, c.len.ensures, s.chunks.ok.0) in
    let e : last ≡ get_or cs (length cs - 1) last = c.index-last.ensures ∙ ap (λ z. get_or cs z last) n in
    let laid = c.requires.laid in
    let k = last-one s last laid c.requires.some e in
    let m = c.len-2.result - 1 in
    let count : m + 1 ≡ length (arc_value last).items.items = omega (arith, c.len-2.ensures, c.deref-2.result.now.items.ok.0, ap (λ z. length z.items.items) c.deref-2.ensures, k.some) in
    let seen = c.deref.result.now in
    let made = c.append_run.new.self in
    let v : chunk_values made ≡ part 0 m (chunk_values seen) = c.in_ok-append_run.ensures.values ∙ ap (λ z. values_in z ++ part 0 m (chunk_values seen)) c.new-made.ensures.pairs in
    let made-counts = c.in_ok-append_run.ensures.counted in
    let many : length made.items.items ≡ m = omega (arith, c.in_ok-append_run.ensures.count, c.new-made.ensures.none) in
    set-few s last laid c.requires.some e seen made c.args.item m c.args.measure c.deref.ensures count v made-counts c.requires.room c.in_ok-new.field-0 c.push.new.self c.in_ok-new.ensures.ok c.in_ok-push.ensures.ok (set-chunk s last laid c.requires.some e seen made c.args.item m c.args.measure c.deref.ensures count v made-counts c.requires.room c.in_ok-new.field-0 c.push.new.self c.in_ok-new.ensures.ok c.in_ok-push.ensures.ok many)

pub replace_last-requires-clause-room : goal.replace_last-requires-clause-room
replace_last-requires-clause-room g c =
    let s = c.args.self.now in
    let cs = s.chunks.items in
    let last = c.index-last.result.now in
    let n : c.len.result - 1 ≡ length cs - 1 = omega (arith, c.len.ensures, s.chunks.ok.0) in
    let e : last ≡ get_or cs (length cs - 1) last = c.index-last.ensures ∙ ap (λ z. get_or cs z last) n in
    let laid = c.requires.laid in
    let k = last-one s last laid c.requires.some e in
    let m = c.len-2.result - 1 in
    let count : m + 1 ≡ length (arc_value last).items.items = omega (arith, c.len-2.ensures, c.deref-2.result.now.items.ok.0, ap (λ z. length z.items.items) c.deref-2.ensures, k.some) in
    let seen = c.deref.result.now in
    let made = c.append_run.new.self in
    let v : chunk_values made ≡ part 0 m (chunk_values seen) = c.in_ok-append_run.ensures.values ∙ ap (λ z. values_in z ++ part 0 m (chunk_values seen)) c.new-made.ensures.pairs in
    let made-counts = c.in_ok-append_run.ensures.counted in
    set-room s last laid c.requires.some e seen made c.args.item m c.args.measure c.deref.ensures count v made-counts c.requires.room c.in_ok-new.field-0 c.push.new.self c.in_ok-new.ensures.ok c.in_ok-push.ensures.ok

pub returns-clause-ok : goal.returns-clause-ok
returns-clause-ok g c =
    let s = c.args.self.now in
    let cs = s.chunks.items in
    let last = c.index-last.result.now in
    let n : c.len.result - 1 ≡ length cs - 1 = omega (arith, c.len.ensures, s.chunks.ok.0) in
    let e : last ≡ get_or cs (length cs - 1) last = c.index-last.ensures ∙ ap (λ z. get_or cs z last) n in
    let laid = c.requires.laid in
    let k = last-one s last laid c.requires.some e in
    let m = c.len-2.result - 1 in
    let count : m + 1 ≡ length (arc_value last).items.items = omega (arith, c.len-2.ensures, c.deref-2.result.now.items.ok.0, ap (λ z. length z.items.items) c.deref-2.ensures, k.some) in
    let seen = c.deref.result.now in
    let made = c.append_run.new.self in
    let v : chunk_values made ≡ part 0 m (chunk_values seen) = c.in_ok-append_run.ensures.values ∙ ap (λ z. values_in z ++ part 0 m (chunk_values seen)) c.new-made.ensures.pairs in
    let made-counts = c.in_ok-append_run.ensures.counted in
    set-values s last laid c.requires.some e seen made c.args.item m c.args.measure c.deref.ensures count v made-counts c.requires.room c.in_ok-new.field-0 c.push.new.self c.in_ok-new.ensures.ok c.in_ok-push.ensures.ok c.replace_last.new.self.chunks.items c.replace_last.ensures.chunks
