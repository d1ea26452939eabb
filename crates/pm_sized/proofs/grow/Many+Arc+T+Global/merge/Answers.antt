use Rattle.std.proofs.Common.{◌≡◌, ◌++◌, ◌-◌, ◌≤◌, ap, ◌∙◌, length, take, get_or, arith}
use Rattle.std.specs.Arc.{arc_value}
use Rattle.pm_sized.specs.Parts.{part, chunk_values}
use Rattle.pm_sized.proofs.LastLaws.{chunk-along}
use Rattle.pm_sized.proofs.MergeLaws.{last-is, room-both, room-one, all-room, all-few, all-values, both-room, both-values}
use Rattle.pm_sized.proofs.grow.Many+Arc+T+Global.merge.Goals as goal

pub extended-requires-clause-chunk : goal.extended-requires-clause-chunk
extended-requires-clause-chunk g c =
    let s = c.args.self.now in
    let cs = s.chunks.items in
    let x = c.args.chunk in
    let last = c.index-last.result.now in
    let n : c.len.result - 1 ≡ length cs - 1 = omega (arith, c.len.ensures, s.chunks.ok.0) in
    let e : last ≡ get_or cs (length cs - 1) last = c.index-last.ensures ∙ ap (λ z. get_or cs z last) n in
    let q = c.requires in
    chunk-along (arc_value last) c.deref-then-len-count-le-MOST.result.now c.deref-then-len-count-le-MOST.ensures (last-is s last x q.laid q.short.0 e q.chunk q.room)

pub extended-requires-clause-room : goal.extended-requires-clause-room
extended-requires-clause-room g c =
    let s = c.args.self.now in
    let cs = s.chunks.items in
    let x = c.args.chunk in
    let last = c.index-last.result.now in
    let n : c.len.result - 1 ≡ length cs - 1 = omega (arith, c.len.ensures, s.chunks.ok.0) in
    let e : last ≡ get_or cs (length cs - 1) last = c.index-last.ensures ∙ ap (λ z. get_or cs z last) n in
    let q = c.requires in
    omega (arith, room-both s last x q.laid q.short.0 e q.chunk q.room, ap (λ z. z.size) c.deref-then-len-count-le-MOST.ensures, ap (λ z. z.size) c.deref-then-len-count-le-MOST-2.ensures)

pub replace_last-requires-clause-few : goal.replace_last-requires-clause-few
replace_last-requires-clause-few g c =
    let s = c.args.self.now in
    let cs = s.chunks.items in
    let x = c.args.chunk in
    let last = c.index-last.result.now in
    let n : c.len.result - 1 ≡ length cs - 1 = omega (arith, c.len.ensures, s.chunks.ok.0) in
    let e : last ≡ get_or cs (length cs - 1) last = c.index-last.ensures ∙ ap (λ z. get_or cs z last) n in
    let q = c.requires in
    let count : length (arc_value x).items.items ≤ c.len-count.result = omega (arith, c.len-count.ensures, c.deref.result.now.items.ok.0, ap (λ z. length z.items.items) c.deref.ensures) in
    let v : chunk_values (arc_value c.in_ok-all.all) ≡ chunk_values (arc_value last) ++ take c.len-count.result (chunk_values (arc_value x)) =
    c.in_ok-all.ensures.values ∙ (ap (λ z. chunk_values z ++ take c.len-count.result (chunk_values c.deref-then-len-count-le-MOST-2.result.now)) c.deref-then-len-count-le-MOST.ensures ∙ ap (λ z. chunk_values (arc_value last) ++ take c.len-count.result (chunk_values z)) c.deref-then-len-count-le-MOST-2.ensures) in
    all-few s last x q.laid q.short.0 e q.chunk q.room c.in_ok-all.all c.len-count.result count v c.in_ok-all.ensures.chunk

pub replace_last-requires-clause-room : goal.replace_last-requires-clause-room
replace_last-requires-clause-room g c =
    let s = c.args.self.now in
    let cs = s.chunks.items in
    let x = c.args.chunk in
    let last = c.index-last.result.now in
    let n : c.len.result - 1 ≡ length cs - 1 = omega (arith, c.len.ensures, s.chunks.ok.0) in
    let e : last ≡ get_or cs (length cs - 1) last = c.index-last.ensures ∙ ap (λ z. get_or cs z last) n in
    let q = c.requires in
    let count : length (arc_value x).items.items ≤ c.len-count.result = omega (arith, c.len-count.ensures, c.deref.result.now.items.ok.0, ap (λ z. length z.items.items) c.deref.ensures) in
    let v : chunk_values (arc_value c.in_ok-all.all) ≡ chunk_values (arc_value last) ++ take c.len-count.result (chunk_values (arc_value x)) =
    c.in_ok-all.ensures.values ∙ (ap (λ z. chunk_values z ++ take c.len-count.result (chunk_values c.deref-then-len-count-le-MOST-2.result.now)) c.deref-then-len-count-le-MOST.ensures ∙ ap (λ z. chunk_values (arc_value last) ++ take c.len-count.result (chunk_values z)) c.deref-then-len-count-le-MOST-2.ensures) in
    all-room s last x q.laid q.short.0 e q.chunk q.room c.in_ok-all.all c.len-count.result count v

pub returns-then-len-count-le-MOST-clause-ok : goal.returns-then-len-count-le-MOST-clause-ok
returns-then-len-count-le-MOST-clause-ok g c =
    let s = c.args.self.now in
    let cs = s.chunks.items in
    let x = c.args.chunk in
    let last = c.index-last.result.now in
    let n : c.len.result - 1 ≡ length cs - 1 = omega (arith, c.len.ensures, s.chunks.ok.0) in
    let e : last ≡ get_or cs (length cs - 1) last = c.index-last.ensures ∙ ap (λ z. get_or cs z last) n in
    let q = c.requires in
    let count : length (arc_value x).items.items ≤ c.len-count.result = omega (arith, c.len-count.ensures, c.deref.result.now.items.ok.0, ap (λ z. length z.items.items) c.deref.ensures) in
    let v : chunk_values (arc_value c.in_ok-all.all) ≡ chunk_values (arc_value last) ++ take c.len-count.result (chunk_values (arc_value x)) =
    c.in_ok-all.ensures.values ∙ (ap (λ z. chunk_values z ++ take c.len-count.result (chunk_values c.deref-then-len-count-le-MOST-2.result.now)) c.deref-then-len-count-le-MOST.ensures ∙ ap (λ z. chunk_values (arc_value last) ++ take c.len-count.result (chunk_values z)) c.deref-then-len-count-le-MOST-2.ensures) in
    all-values s last x q.laid q.short.0 e q.chunk q.room c.in_ok-all.all c.len-count.result count v c.replace_last.new.self.chunks.items c.replace_last.ensures.chunks

pub extended-requires-2-clause-chunk : goal.extended-requires-2-clause-chunk
extended-requires-2-clause-chunk g c =
    let s = c.args.self.now in
    let cs = s.chunks.items in
    let x = c.args.chunk in
    let last = c.index-last.result.now in
    let n : c.len.result - 1 ≡ length cs - 1 = omega (arith, c.len.ensures, s.chunks.ok.0) in
    let e : last ≡ get_or cs (length cs - 1) last = c.index-last.ensures ∙ ap (λ z. get_or cs z last) n in
    let q = c.requires in
    chunk-along (arc_value last) c.deref-4.result.now c.deref-4.ensures (last-is s last x q.laid q.short.0 e q.chunk q.room)

pub extended-requires-2-clause-room : goal.extended-requires-2-clause-room
extended-requires-2-clause-room g c =
    let s = c.args.self.now in
    let cs = s.chunks.items in
    let x = c.args.chunk in
    let last = c.index-last.result.now in
    let n : c.len.result - 1 ≡ length cs - 1 = omega (arith, c.len.ensures, s.chunks.ok.0) in
    let e : last ≡ get_or cs (length cs - 1) last = c.index-last.ensures ∙ ap (λ z. get_or cs z last) n in
    let q = c.requires in
    omega (arith, room-both s last x q.laid q.short.0 e q.chunk q.room, ap (λ z. z.size) c.deref-4.ensures, ap (λ z. z.size) c.deref-5.ensures)

pub run-requires-clause-bound : goal.run-requires-clause-bound
run-requires-clause-bound g c =
    let s = c.args.self.now in
    let cs = s.chunks.items in
    let x = c.args.chunk in
    let last = c.index-last.result.now in
    let n : c.len.result - 1 ≡ length cs - 1 = omega (arith, c.len.ensures, s.chunks.ok.0) in
    let e : last ≡ get_or cs (length cs - 1) last = c.index-last.ensures ∙ ap (λ z. get_or cs z last) n in
    let q = c.requires in
    omega (arith, room-one s last x q.laid q.short.0 e q.chunk q.room, ap (λ z. z.size) c.deref-6.ensures)

pub replace_by_two-requires-clause-room : goal.replace_by_two-requires-clause-room
replace_by_two-requires-clause-room g c =
    let s = c.args.self.now in
    let cs = s.chunks.items in
    let x = c.args.chunk in
    let last = c.index-last.result.now in
    let n : c.len.result - 1 ≡ length cs - 1 = omega (arith, c.len.ensures, s.chunks.ok.0) in
    let e : last ≡ get_or cs (length cs - 1) last = c.index-last.ensures ∙ ap (λ z. get_or cs z last) n in
    let q = c.requires in
    let count : length (arc_value x).items.items ≤ c.len-count.result = omega (arith, c.len-count.ensures, c.deref.result.now.items.ok.0, ap (λ z. length z.items.items) c.deref.ensures) in
    let taken : c.len-taken.result ≡ length (arc_value last).items.items = c.len-taken.ensures ∙ (c.deref-3.result.now.items.ok.0 ∙ ap (λ z. length z.items.items) c.deref-3.ensures) in
    let had : c.len-2.result ≡ length (arc_value last).items.items = c.len-2.ensures ∙ (c.deref-2.result.now.items.ok.0 ∙ ap (λ z. length z.items.items) c.deref-2.ensures) in
    let m = 32 - c.len-taken.result in
    let o : m ≤ c.len-count.result = omega (arith, taken, had, c.if-len-count-le-MOST.false) in
    let v : chunk_values (arc_value c.in_ok-full.full) ≡ chunk_values (arc_value last) ++ take m (chunk_values (arc_value x)) =
    c.in_ok-full.ensures.values ∙ (ap (λ z. chunk_values z ++ take m (chunk_values c.deref-5.result.now)) c.deref-4.ensures ∙ ap (λ z. chunk_values (arc_value last) ++ take m (chunk_values z)) c.deref-5.ensures) in
    let u : chunk_values (arc_value c.in_ok-rest.rest) ≡ part m c.len-count.result (chunk_values (arc_value x)) =
    c.in_ok-rest.ensures.values ∙ ap (λ z. part m c.len-count.result (chunk_values z)) c.deref-6.ensures in
    both-room s last x q.laid q.short.0 e q.chunk q.room c.in_ok-full.full c.in_ok-rest.rest m c.len-count.result o count v u

pub returns-clause-ok : goal.returns-clause-ok
returns-clause-ok g c =
    let s = c.args.self.now in
    let cs = s.chunks.items in
    let x = c.args.chunk in
    let last = c.index-last.result.now in
    let n : c.len.result - 1 ≡ length cs - 1 = omega (arith, c.len.ensures, s.chunks.ok.0) in
    let e : last ≡ get_or cs (length cs - 1) last = c.index-last.ensures ∙ ap (λ z. get_or cs z last) n in
    let q = c.requires in
    let count : length (arc_value x).items.items ≤ c.len-count.result = omega (arith, c.len-count.ensures, c.deref.result.now.items.ok.0, ap (λ z. length z.items.items) c.deref.ensures) in
    let taken : c.len-taken.result ≡ length (arc_value last).items.items = c.len-taken.ensures ∙ (c.deref-3.result.now.items.ok.0 ∙ ap (λ z. length z.items.items) c.deref-3.ensures) in
    let had : c.len-2.result ≡ length (arc_value last).items.items = c.len-2.ensures ∙ (c.deref-2.result.now.items.ok.0 ∙ ap (λ z. length z.items.items) c.deref-2.ensures) in
    let m = 32 - c.len-taken.result in
    let o : m ≤ c.len-count.result = omega (arith, taken, had, c.if-len-count-le-MOST.false) in
    let v : chunk_values (arc_value c.in_ok-full.full) ≡ chunk_values (arc_value last) ++ take m (chunk_values (arc_value x)) =
    c.in_ok-full.ensures.values ∙ (ap (λ z. chunk_values z ++ take m (chunk_values c.deref-5.result.now)) c.deref-4.ensures ∙ ap (λ z. chunk_values (arc_value last) ++ take m (chunk_values z)) c.deref-5.ensures) in
    let u : chunk_values (arc_value c.in_ok-rest.rest) ≡ part m c.len-count.result (chunk_values (arc_value x)) =
    c.in_ok-rest.ensures.values ∙ ap (λ z. part m c.len-count.result (chunk_values z)) c.deref-6.ensures in
    both-values s last x q.laid q.short.0 e q.chunk q.room c.in_ok-full.full c.in_ok-rest.rest m c.len-count.result o count v u c.replace_by_two.new.self.chunks.items c.in_ok-replace_by_two.ensures.ok
