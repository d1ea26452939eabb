use Rattle.std.proofs.Common.{◌≡◌, ◌+◌, ◌-◌, ◌<◌, ◌++◌, [], ◌∷◌, ap, sym, ◌∙◌, length, get_or, arith}
use Rattle.std.specs.Arc.{arc_value, arc_with_value}
use Rattle.pm_sized.specs.Pairs.{chunk_pairs}
use Rattle.pm_sized.proofs.FindLaws.{chunk-size}
use Rattle.pm_sized.proofs.LastLaws.{chunk-along}
use Rattle.pm_sized.proofs.GrowLaws.{same-item, pairs-unchanged, chunk-unchanged, chunk-grown, last-was, total-last, pairs-kept, laid-kept, pairs-more, laid-more, on_err_of}
use Rattle.pm_sized.proofs.many.Many.grow.Goals as goal

pub push-requires-clause-counted : goal.push-requires-clause-counted
push-requires-clause-counted g c =
    let s = c.args.self.now in
    let cs = s.chunks.items in
    let at = c.len-count.result - 1 in
    let lt : at + 1 ≡ length cs = omega (arith, c.if-count-eq0.false, c.len-count.ensures, s.chunks.ok.0) in
    let last = c.index_mut.result.now in
    let e : last ≡ get_or cs at last = c.index_mut.ensures.value in
    let v = c.in-Some.chunk.now in
    let seen : v ≡ arc_value last = c.in-Some.ensures.value in
    let laid = c.requires.laid in
    (chunk-along (arc_value last) v seen (last-was s at last laid lt e)).counted

pub push-requires-clause-room : goal.push-requires-clause-room
push-requires-clause-room g c =
    let s = c.args.self.now in
    let cs = s.chunks.items in
    let at = c.len-count.result - 1 in
    let lt : at + 1 ≡ length cs = omega (arith, c.if-count-eq0.false, c.len-count.ensures, s.chunks.ok.0) in
    let last = c.index_mut.result.now in
    let e : last ≡ get_or cs at last = c.index_mut.ensures.value in
    let v = c.in-Some.chunk.now in
    let seen : v ≡ arc_value last = c.in-Some.ensures.value in
    let laid = c.requires.laid in
    let k = last-was s at last laid lt e in
    omega (arith, c.requires.room, laid.total, total-last s at last laid lt e, ap (λ z. z.size) seen, chunk-size (arc_value last) k.counted)

pub returns-in_err-push-in-Some-clause-laid : goal.returns-in_err-push-in-Some-clause-laid
returns-in_err-push-in-Some-clause-laid g c =
    let s = c.args.self.now in
    let cs = s.chunks.items in
    let at = c.len-count.result - 1 in
    let lt : at + 1 ≡ length cs = omega (arith, c.if-count-eq0.false, c.len-count.ensures, s.chunks.ok.0) in
    let last = c.index_mut.result.now in
    let e : last ≡ get_or cs at last = c.index_mut.ensures.value in
    let v = c.in-Some.chunk.now in
    let seen : v ≡ arc_value last = c.in-Some.ensures.value in
    let laid = c.requires.laid in
    let d = arc_with_value last c.push.new.self in
    let u = c.in_err-push-in-Some.ensures.err in
    let k = chunk-unchanged v c.push.new.self u (chunk-along (arc_value last) v seen (last-was s at last laid lt e)) in
    let same : chunk_pairs (arc_value d) ≡ chunk_pairs (arc_value last) = pairs-unchanged v c.push.new.self u ∙ ap chunk_pairs seen in
    laid-kept s at last laid lt e d k same

pub returns-clause-laid : goal.returns-clause-laid
returns-clause-laid g c =
    let s = c.args.self.now in
    let cs = s.chunks.items in
    let at = c.len-count.result - 1 in
    let lt : at + 1 ≡ length cs = omega (arith, c.if-count-eq0.false, c.len-count.ensures, s.chunks.ok.0) in
    let last = c.index_mut.result.now in
    let e : last ≡ get_or cs at last = c.index_mut.ensures.value in
    let v = c.in-Some.chunk.now in
    let seen : v ≡ arc_value last = c.in-Some.ensures.value in
    let laid = c.requires.laid in
    let d = arc_with_value last c.push.new.self in
    let u = c.in_ok-push-in-Some.ensures.ok in
    let one : c.index.result.now ≡ last = c.index.ensures ∙ (same-item cs at c.index.result.now last (omega (arith, lt)) ∙ sym e) in
    let short : length v.items.items < 32 = omega (
      arith,
      c.if-len-ge-CHUNK.false,
      c.len.ensures,
      c.deref.result.now.items.ok.0,
      ap (λ z. length z.items.items) (c.deref.ensures ∙ ap arc_value one),
      ap (λ z. length z.items.items) seen,
    ) in
    let k = chunk-grown v c.push.new.self c.args.item c.args.measure u short in
    let more : chunk_pairs (arc_value d) ≡ chunk_pairs (arc_value last) ++ (c.args.item, c.args.measure) ∷ [] = u.pairs ∙ ap (λ z. chunk_pairs z ++ (c.args.item, c.args.measure) ∷ []) seen in
    laid-more s at last laid lt e d k c.args.item c.args.measure more (omega (arith, c.requires.room, laid.total))

pub returns-clause-ok : goal.returns-clause-ok
returns-clause-ok g c =
    let s = c.args.self.now in
    let cs = s.chunks.items in
    let at = c.len-count.result - 1 in
    let lt : at + 1 ≡ length cs = omega (arith, c.if-count-eq0.false, c.len-count.ensures, s.chunks.ok.0) in
    let last = c.index_mut.result.now in
    let e : last ≡ get_or cs at last = c.index_mut.ensures.value in
    let v = c.in-Some.chunk.now in
    let seen : v ≡ arc_value last = c.in-Some.ensures.value in
    let laid = c.requires.laid in
    let d = arc_with_value last c.push.new.self in
    let u = c.in_ok-push-in-Some.ensures.ok in
    let one : c.index.result.now ≡ last = c.index.ensures ∙ (same-item cs at c.index.result.now last (omega (arith, lt)) ∙ sym e) in
    let short : length v.items.items < 32 = omega (
      arith,
      c.if-len-ge-CHUNK.false,
      c.len.ensures,
      c.deref.result.now.items.ok.0,
      ap (λ z. length z.items.items) (c.deref.ensures ∙ ap arc_value one),
      ap (λ z. length z.items.items) seen,
    ) in
    let k = chunk-grown v c.push.new.self c.args.item c.args.measure u short in
    let more : chunk_pairs (arc_value d) ≡ chunk_pairs (arc_value last) ++ (c.args.item, c.args.measure) ∷ [] = u.pairs ∙ ap (λ z. chunk_pairs z ++ (c.args.item, c.args.measure) ∷ []) seen in
    pairs-more s at last laid lt e d k c.args.item c.args.measure more

pub returns-in_err-push-in-Some-clause-err : goal.returns-in_err-push-in-Some-clause-err
returns-in_err-push-in-Some-clause-err g c =
    let s = c.args.self.now in
    let cs = s.chunks.items in
    let at = c.len-count.result - 1 in
    let lt : at + 1 ≡ length cs = omega (arith, c.if-count-eq0.false, c.len-count.ensures, s.chunks.ok.0) in
    let last = c.index_mut.result.now in
    let e : last ≡ get_or cs at last = c.index_mut.ensures.value in
    let v = c.in-Some.chunk.now in
    let seen : v ≡ arc_value last = c.in-Some.ensures.value in
    let laid = c.requires.laid in
    let d = arc_with_value last c.push.new.self in
    let u = c.in_err-push-in-Some.ensures.err in
    let k = chunk-unchanged v c.push.new.self u (chunk-along (arc_value last) v seen (last-was s at last laid lt e)) in
    let same : chunk_pairs (arc_value d) ≡ chunk_pairs (arc_value last) = pairs-unchanged v c.push.new.self u ∙ ap chunk_pairs seen in
    on_err_of c.from_residual.result (pairs-kept s at last laid lt e d k same)
