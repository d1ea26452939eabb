-- Items that are put after those of the last chunk.
use Rattle.std.specs.Prelude.{◌≡◌, ℕ, ◌+◌, ◌-◌, ◌≤◌, ◌<◌, ◌^◌, List, [], ◌∷◌, ◌++◌, length, take, get_or}
use Rattle.std.specs.declared.sync.Arc.{Arc}
use Rattle.std.specs.declared.alloc.Global.{Global}
use Rattle.std.specs.Arc.{arc_value}
use Rattle.std.proofs.Common.{refl, ap, sym, ◌∙◌, arith, append_assoc}
use Rattle.std.proofs.lemmas.List.{take_all}
use Rattle.pm_sized.specs.declared.chunk.Chunk.{Chunk}
use Rattle.pm_sized.specs.declared.many.Many.{Many}
use Rattle.pm_sized.specs.Pairs.{chunk_pairs, all_pairs, many_pairs, total_of, IsChunk, IsMany}
use Rattle.pm_sized.specs.Parts.{part, all_but_last, values_in, chunk_values, many_values}
use Rattle.pm_sized.proofs.PairLaws.{total_of-append}
use Rattle.pm_sized.proofs.FindLaws.{chunk-size, chunk-count}
use Rattle.pm_sized.proofs.PartLaws.{part-at, part-front, part-all, length-values, total-values, few-within}
use Rattle.pm_sized.proofs.LastLaws.{split-last, chunk-in, chunks-take, total-pushed, values-pushed}

module _ {T : Type 0} (s : Many (Arc T Global)) (last x : Arc (Chunk (Arc T Global)) Global) (h : IsMany s) (some : 0 < length s.chunks.items) (e : last ≡ get_or s.chunks.items (length s.chunks.items - 1) last) (k : IsChunk (arc_value x)) (r : total_of (many_values s) + total_of (chunk_values (arc_value x)) < 2 ^ 32) where
  pub last-is : IsChunk (arc_value last)
  last-is = chunk-in (all_but_last s.chunks.items) s.chunks.items last (split-last s.chunks.items last some e) h.chunks

  total-split : total_of (many_values s) ≡ total_of (all_pairs (all_but_last s.chunks.items)) + total_of (chunk_pairs (arc_value last))
  total-split = total-values (many_pairs s) ∙ total-pushed (all_but_last s.chunks.items) s.chunks.items last (split-last s.chunks.items last some e)

  values-split : many_values s ≡ values_in (all_pairs (all_but_last s.chunks.items)) ++ chunk_values (arc_value last)
  values-split = values-pushed (all_but_last s.chunks.items) s.chunks.items last (split-last s.chunks.items last some e)

  pub room-both : (arc_value last).size + (arc_value x).size < 2 ^ 32
  room-both = omega (arith, r, total-split, chunk-size (arc_value last) last-is.counted, chunk-size (arc_value x) k.counted, total-values (chunk_pairs (arc_value x)))

  pub room-one : (arc_value x).size < 2 ^ 32
  room-one = omega (arith, room-both)

  -- all of them in the last chunk
  module _ (y : Arc (Chunk (Arc T Global)) Global) (n : ℕ) (l : length (arc_value x).items.items ≤ n) (v : chunk_values (arc_value y) ≡ chunk_values (arc_value last) ++ take n (chunk_values (arc_value x))) where
    all-of : chunk_values (arc_value y) ≡ chunk_values (arc_value last) ++ chunk_values (arc_value x)
    all-of = v ∙ ap (λ z. chunk_values (arc_value last) ++ z) (take_all n (chunk_values (arc_value x)) (omega (arith, l, length-values (chunk_pairs (arc_value x)), chunk-count (arc_value x) k.counted)))

    pub all-room : total_of (all_pairs (all_but_last s.chunks.items)) + total_of (chunk_pairs (arc_value y)) < 2 ^ 32
    all-room =
        omega (
          arith,
          r,
          total-split,
          ap total_of all-of,
          total_of-append (chunk_values (arc_value last)) (chunk_values (arc_value x)),
          total-values (chunk_pairs (arc_value y)),
          total-values (chunk_pairs (arc_value last)),
        )

    pub all-few : IsChunk (arc_value y) → length (all_pairs (all_but_last s.chunks.items)) + length (chunk_pairs (arc_value y)) < 2 ^ 32
    all-few m = omega (arith, all-room, few-within (all_but_last s.chunks.items) (arc_value y) (chunks-take s.chunks.items (length s.chunks.items - 1) h.chunks) m.counted)

    pub all-values : (ds : List (Arc (Chunk (Arc T Global)) Global)) → ds ≡ all_but_last s.chunks.items ++ y ∷ [] → values_in (all_pairs ds) ≡ many_values s ++ chunk_values (arc_value x)
    all-values ds is =
        let B = values_in (all_pairs (all_but_last s.chunks.items)) in
        let L = chunk_values (arc_value last) in
        let X = chunk_values (arc_value x) in
        values-pushed (all_but_last s.chunks.items) ds y is ∙ (ap (λ z. B ++ z) all-of ∙ (sym (append_assoc B L X) ∙ ap (λ z. z ++ X) (sym values-split)))

  -- some of them in the last chunk, and the others after
  module _ (y w : Arc (Chunk (Arc T Global)) Global) (m n : ℕ) (o : m ≤ n) (l : length (arc_value x).items.items ≤ n) (v : chunk_values (arc_value y) ≡ chunk_values (arc_value last) ++ take m (chunk_values (arc_value x))) (u : chunk_values (arc_value w) ≡ part m n (chunk_values (arc_value x))) where
    rejoined : take m (chunk_values (arc_value x)) ++ chunk_values (arc_value w) ≡ chunk_values (arc_value x)
    rejoined =
        let X = chunk_values (arc_value x) in
        ap (λ z. take m X ++ z) u ∙ (ap (λ z. z ++ part m n X) (sym (part-front m X)) ∙ (sym (part-at 0 m n X (omega arith) o)
        ∙ part-all n X (omega (arith, l, length-values (chunk_pairs (arc_value x)), chunk-count (arc_value x) k.counted))))

    pub both-room : total_of (all_pairs (all_but_last s.chunks.items)) + total_of (chunk_pairs (arc_value y)) + total_of (chunk_pairs (arc_value w)) < 2 ^ 32
    both-room =
        let X = chunk_values (arc_value x) in
        omega (
          arith,
          r,
          total-split,
          ap total_of v,
          ap total_of rejoined,
          total_of-append (chunk_values (arc_value last)) (take m X),
          total_of-append (take m X) (chunk_values (arc_value w)),
          total-values (chunk_pairs (arc_value y)),
          total-values (chunk_pairs (arc_value w)),
          total-values (chunk_pairs (arc_value last)),
        )

    pub both-values : (ds : List (Arc (Chunk (Arc T Global)) Global)) → ds ≡ (all_but_last s.chunks.items ++ y ∷ []) ++ w ∷ [] → values_in (all_pairs ds) ≡ many_values s ++ chunk_values (arc_value x)
    both-values ds is =
        let front-y = all_but_last s.chunks.items ++ y ∷ [] in
        let B = values_in (all_pairs (all_but_last s.chunks.items)) in
        let L = chunk_values (arc_value last) in
        let X = chunk_values (arc_value x) in
        let W = chunk_values (arc_value w) in
        values-pushed front-y ds w is ∙ (ap (λ z. z ++ W) (values-pushed (all_but_last s.chunks.items) front-y y refl ∙ ap (λ z. B ++ z) v)
        ∙ (ap (λ z. z ++ W) (sym (append_assoc B L (take m X))) ∙ (append_assoc (B ++ L) (take m X) W ∙ (ap (λ z. (B ++ L) ++ z) rejoined ∙ ap (λ z. z ++ X) (sym values-split)))))
