use Rattle.std.proofs.Common.{◌≡◌, [], ◌∷◌, ◌+◌, ◌-◌, ◌++◌, ap, ◌∙◌, length, take, get_or, arith}
use Rattle.std.specs.Vec.{with_item}
use Rattle.std.proofs.lemmas.Grind.{get_or_default_zero}
use Rattle.std.specs.Arc.{arc_value}
use Rattle.pm_sized.specs.Pairs.{chunk_pairs, all_pairs, total_of}
use Rattle.pm_sized.specs.Parts.{all_but_last}
use Rattle.pm_sized.proofs.FindLaws.{chunk-size, chunk-count}
use Rattle.pm_sized.proofs.LastLaws.{split-last, set-last, laid-last}
use Rattle.pm_sized.proofs.many.Many.replace_last.Goals as goal

pub overflow_add-self : goal.overflow_add-self
overflow_add-self g c =
    let s = c.args.self.now in
    let cs = s.chunks.items in
    let v = arc_value c.args.chunk in
    let at = c.len-at.result - 1 in
    let lt : at + 1 ≡ length cs = omega (arith, c.requires.some, c.len-at.ensures, s.chunks.ok.0) in
    let n : at ≡ length cs - 1 = omega (arith, lt) in
    let start : c.index.result.now ≡ total_of (all_pairs (all_but_last cs)) = c.index.ensures ∙ (get_or_default_zero s.starts.items at c.index.result.now (omega (arith, lt, c.requires.laid.starts_count)) ∙ (c.requires.laid.starts at (omega (arith, lt)) ∙ ap (λ z. total_of (all_pairs (take z cs))) n)) in
    let size : c.deref.result.now.size ≡ total_of (chunk_pairs v) = ap (λ z. z.size) c.deref.ensures ∙ chunk-size v c.requires.chunk.counted in
    omega (arith, start, size, c.requires.room)

pub returns-clause-chunks : goal.returns-clause-chunks
returns-clause-chunks g c =
    let cs = c.args.self.now.chunks.items in
    set-last cs (c.len-at.result - 1) c.replace.new.dest (omega (arith, c.requires.some, c.len-at.ensures, c.args.self.now.chunks.ok.0)) ∙ ap (λ z. all_but_last cs ++ z ∷ []) c.replace.ensures.after

pub returns-clause-laid : goal.returns-clause-laid
returns-clause-laid g c =
    let s = c.args.self.now in
    let cs = s.chunks.items in
    let ch = c.args.chunk in
    let v = arc_value ch in
    let at = c.len-at.result - 1 in
    let lt : at + 1 ≡ length cs = omega (arith, c.requires.some, c.len-at.ensures, s.chunks.ok.0) in
    let n : at ≡ length cs - 1 = omega (arith, lt) in
    let front = all_but_last cs in
    let start : c.index.result.now ≡ total_of (all_pairs front) = c.index.ensures ∙ (get_or_default_zero s.starts.items at c.index.result.now (omega (arith, lt, c.requires.laid.starts_count)) ∙ (c.requires.laid.starts at (omega (arith, lt)) ∙ ap (λ z. total_of (all_pairs (take z cs))) n)) in
    let first : c.index-2.result.now ≡ length (all_pairs front) = c.index-2.ensures ∙ (get_or_default_zero s.firsts.items at c.index-2.result.now (omega (arith, lt, c.requires.laid.firsts_count)) ∙ (c.requires.laid.firsts at (omega (arith, lt)) ∙ ap (λ z. length (all_pairs (take z cs))) n)) in
    let size : c.deref.result.now.size ≡ total_of (chunk_pairs v) = ap (λ z. z.size) c.deref.ensures ∙ chunk-size v c.requires.chunk.counted in
    let count : c.len.result ≡ length (chunk_pairs v) = c.len.ensures ∙ (c.deref-2.result.now.items.ok.0 ∙ (ap (λ z. length z.items.items) c.deref-2.ensures ∙ chunk-count v c.requires.chunk.counted)) in
    let last = c.index_mut.result.now in
    let was : cs ≡ front ++ last ∷ [] = split-last cs last c.requires.some (c.index_mut.ensures.value ∙ ap (λ z. get_or cs z last) n) in
    let now = set-last cs at c.replace.new.dest lt ∙ ap (λ z. front ++ z ∷ []) c.replace.ensures.after in
    laid-last s.chunks (with_item s.chunks at c.replace.new.dest) s.starts s.firsts s.total s.len _ _ last ch front was now c.requires.laid c.requires.chunk
    (omega (arith, start, size)) (omega (arith, first, count)) (omega (arith, start, size, c.requires.room)) (omega (arith, first, count, c.requires.few))
