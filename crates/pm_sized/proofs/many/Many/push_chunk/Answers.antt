use Rattle.std.proofs.Common.{◌≡◌, [], ◌∷◌, ◌++◌, ap, ◌∙◌, arith, length}
use Rattle.std.specs.Arc.{arc_value}
use Rattle.pm_sized.specs.Pairs.{chunk_pairs, total_of}
use Rattle.pm_sized.proofs.FindLaws.{laid-push, chunk-size, chunk-count}
use Rattle.pm_sized.proofs.many.Many.push_chunk.Goals as goal

pub overflow_add-self : goal.overflow_add-self
overflow_add-self g c =
    let v = arc_value c.args.chunk in
    let size-is : c.deref.result.now.size ≡ total_of (chunk_pairs v) = ap (λ z. z.size) c.deref.ensures ∙ chunk-size v c.requires.chunk.counted in
    omega (arith, size-is, c.requires.laid.total, c.requires.room)

pub returns-clause-laid : goal.returns-clause-laid
returns-clause-laid g c =
    let s = c.args.self.now in
    let v = arc_value c.args.chunk in
    let size-is : c.deref.result.now.size ≡ total_of (chunk_pairs v) = ap (λ z. z.size) c.deref.ensures ∙ chunk-size v c.requires.chunk.counted in
    let count-is : c.len-count.result ≡ length (chunk_pairs v) = c.len-count.ensures ∙ (c.deref-2.result.now.items.ok.0 ∙ (ap (λ z. length z.items.items) c.deref-2.ensures ∙ chunk-count v c.requires.chunk.counted)) in
    laid-push s.chunks c.push.new.self s.starts c.push-2.new.self s.firsts c.push-3.new.self s.total s.len c.deref.result.now.size c.len-count.result c.args.chunk
    c.in_ok-push.ensures.items (c.in_ok-push-2.ensures.items ∙ ap (λ z. z ++ s.total ∷ []) c.reserve.ensures.items) (c.in_ok-push-3.ensures.items ∙ ap (λ z. z ++ s.len ∷ []) c.reserve-2.ensures.items) c.requires.laid c.requires.full c.requires.chunk size-is count-is
    (omega (arith, size-is, c.requires.laid.total, c.requires.room)) (omega (arith, count-is, c.requires.laid.len, c.requires.few))
