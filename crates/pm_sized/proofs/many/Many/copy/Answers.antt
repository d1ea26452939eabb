use Rattle.std.proofs.Common.{ap, sym, ◌∙◌, subst, arith, length}
use Rattle.pm_sized.specs.Pairs.{all_pairs, total_of, arc_values, AreChunks}
use Rattle.pm_sized.proofs.CopyLaws.{none-in, full-copied, pairs-copied, shared-copied, copied-more, room-copied, few-copied, chunk-copied}
use Rattle.pm_sized.proofs.many.Many.copy.Goals as goal

pub loop-chunk-init : goal.loop-chunk-init
loop-chunk-init g c = record { laid = c.in_ok-made.ensures.laid; same = ap arc_values (none-in c.in_ok-made.made c.in_ok-made.ensures.laid c.in_ok-made.ensures.pairs) }

pub push_chunk-requires-clause-full : goal.push_chunk-requires-clause-full
push_chunk-requires-clause-full g c =
    let l = c.loop-chunk in
    full-copied l.made c.deref-chunk-items.result.now l.chunk-index l.invariant (subst AreChunks (sym c.deref-chunk-items.ensures.value) c.requires.laid.chunks) c.loop-chunk-test.true

pub push_chunk-requires-clause-chunk : goal.push_chunk-requires-clause-chunk
push_chunk-requires-clause-chunk g c =
    chunk-copied c.deref-chunk-items.result.now c.loop-chunk.chunk-index c.in_ok-try_clone.field-0 c.chunk-item.result c.in_ok-try_clone.ensures (subst AreChunks (sym c.deref-chunk-items.ensures.value) c.requires.laid.chunks) c.loop-chunk-test.true c.chunk-item.is

pub push_chunk-requires-clause-few : goal.push_chunk-requires-clause-few
push_chunk-requires-clause-few g c =
    let l = c.loop-chunk in
    let all = c.deref-chunk-items.result.now in
    let k = c.requires.laid in
    omega (arith, few-copied l.made all l.chunk-index c.in_ok-try_clone.field-0 c.chunk-item.result l.invariant c.in_ok-try_clone.ensures c.loop-chunk-test.true c.chunk-item.is, k.len, k.few, ap (λ z. length (all_pairs z)) c.deref-chunk-items.ensures.value)

pub push_chunk-requires-clause-room : goal.push_chunk-requires-clause-room
push_chunk-requires-clause-room g c =
    let l = c.loop-chunk in
    let all = c.deref-chunk-items.result.now in
    let k = c.requires.laid in
    omega (arith, room-copied l.made all l.chunk-index c.in_ok-try_clone.field-0 c.chunk-item.result l.invariant c.in_ok-try_clone.ensures c.loop-chunk-test.true c.chunk-item.is, k.total, k.bound, ap (λ z. total_of (all_pairs z)) c.deref-chunk-items.ensures.value)

pub loop-chunk-preserved : goal.loop-chunk-preserved
loop-chunk-preserved g c =
    let l = c.loop-chunk in
    copied-more l.made c.push_chunk.new.self c.deref-chunk-items.result.now l.chunk-index c.in_ok-try_clone.field-0 c.chunk-item.result l.invariant c.in_ok-push_chunk.ensures.laid c.in_ok-push_chunk.ensures.chunks c.in_ok-try_clone.ensures c.loop-chunk-test.true c.chunk-item.is

pub returns-clause-pairs : goal.returns-clause-pairs
returns-clause-pairs g c =
    pairs-copied c.loop-chunk.made c.deref-chunk-items.result.now c.loop-chunk.chunk-index c.loop-chunk.invariant c.loop-chunk-test.false ∙ ap all_pairs c.deref-chunk-items.ensures.value

pub returns-clause-chunks : goal.returns-clause-chunks
returns-clause-chunks g c =
    shared-copied c.loop-chunk.made c.deref-chunk-items.result.now c.loop-chunk.chunk-index c.loop-chunk.invariant c.loop-chunk-test.false ∙ ap arc_values c.deref-chunk-items.ensures.value
