-- The last chunk grows, or gets another last item.
use Rattle.std.specs.Prelude.{◌≡◌, ℕ, ◌+◌, ◌-◌, ◌<◌, ◌^◌, Result, Ok, Err, OnErr, List, [], ◌∷◌, ◌++◌, length, take, set, get_or}
use Rattle.std.specs.declared.sync.Arc.{Arc}
use Rattle.std.specs.declared.alloc.Global.{Global}
use Rattle.std.specs.Arc.{arc_value}
use Rattle.std.specs.Vec.{with_item}
use Rattle.std.proofs.Common.{zero, suc, refl, ap, sym, ◌∙◌, subst, arith, append_assoc, length-append}
use Rattle.std.proofs.Math.Seq.{take-append-add}
use Rattle.pm_sized.specs.declared.chunk.Chunk.{Chunk}
use Rattle.pm_sized.specs.declared.many.Many.{Many}
use Rattle.pm_sized.specs.Pairs.{measures, paired, chunk_pairs, all_pairs, many_pairs, total_of, Rises, IsCounted, Grown, IsChunk, IsMany}
use Rattle.pm_sized.specs.Parts.{part, all_but_last, values_in, chunk_values, many_values, Unchanged}
use Rattle.pm_sized.proofs.PairLaws.{all_pairs-push, total_of-append}
use Rattle.pm_sized.proofs.FindLaws.{chunk-size, chunk-count}
use Rattle.pm_sized.proofs.PartLaws.{part-front, values-append, length-values, total-values, few-within}
use Rattle.pm_sized.proofs.LastLaws.{split-last, set-last, chunk-in, chunks-take, length-pushed, total-pushed, values-pushed, laid-last}

-- whatever stands for an item that is missing
pub same-item : {A : Type 0} (xs : List A) (i : ℕ) (x y : A) → i < length xs → get_or xs i x ≡ get_or xs i y
same-item [] i x y l = absurd (omega (arith, l))
same-item (z ∷ xs) zero x y l = refl
same-item (z ∷ xs) (suc i) x y l = same-item xs i x y (omega (arith, l))

pub pairs-unchanged : {T : Type 0} (c d : Chunk T) → Unchanged c d → chunk_pairs d ≡ chunk_pairs c
pairs-unchanged c d u =
    ap (λ z. paired z (measures d.starts.items d.size)) u.items ∙ (ap (λ z. paired c.items.items (measures z d.size)) u.starts ∙ ap (λ z. paired c.items.items (measures c.starts.items z)) u.size)

pub chunk-unchanged : {T : Type 0} (c d : Chunk T) → Unchanged c d → IsChunk c → IsChunk d
chunk-unchanged c d u k =
    let P : List ℕ → Type 0 = λ z. Rises z d.size in
    let Q : ℕ → Type 0 = λ z. Rises c.starts.items z in
    record {
      counted = record {
        same = ap length u.starts ∙ (k.counted.same ∙ ap length (sym u.items));
        from = ap (λ z. get_or z 0 d.size) u.starts ∙ (ap (λ z. get_or c.starts.items 0 z) u.size ∙ k.counted.from);
        rises = subst P (sym u.starts) (subst Q (sym u.size) k.counted.rises);
      };
      some = omega (arith, k.some, ap length u.items);
      most = omega (arith, k.most, ap length u.items);
    }

pub chunk-grown : {T : Type 0} (c d : Chunk T) (x : T) (m : ℕ) → Grown c x m d → length c.items.items < 32 → IsChunk d
chunk-grown c d x m g l = record { counted = g.counted; some = omega (arith, g.more); most = omega (arith, g.more, l) }

-- another chunk in the place of the last one, by its number
module _ {T : Type 0} (s : Many T) (at : ℕ) (last : Arc (Chunk T) Global) (h : IsMany s) (lt : at + 1 ≡ length s.chunks.items) (e : last ≡ get_or s.chunks.items at last) where
  was : s.chunks.items ≡ all_but_last s.chunks.items ++ last ∷ []
  was = let n : at ≡ length s.chunks.items - 1 = omega (arith, lt) in split-last s.chunks.items last (omega (arith, lt)) (e ∙ ap (λ z. get_or s.chunks.items z last) n)

  pub last-was : IsChunk (arc_value last)
  last-was = chunk-in (all_but_last s.chunks.items) s.chunks.items last was h.chunks

  -- the sum of the last chunk is part of the whole
  pub total-last : s.total ≡ total_of (all_pairs (all_but_last s.chunks.items)) + total_of (chunk_pairs (arc_value last))
  total-last = h.total ∙ total-pushed (all_but_last s.chunks.items) s.chunks.items last was

  module _ (d : Arc (Chunk T) Global) (k : IsChunk (arc_value d)) where
    now : set s.chunks.items at d ≡ all_but_last s.chunks.items ++ d ∷ []
    now = set-last s.chunks.items at d lt

    pub pairs-kept : chunk_pairs (arc_value d) ≡ chunk_pairs (arc_value last) → all_pairs (set s.chunks.items at d) ≡ many_pairs s
    pairs-kept same =
        let F = all_but_last s.chunks.items in
        ap all_pairs now ∙ (all_pairs-push F d ∙ (ap (λ z. all_pairs F ++ z) same ∙ (sym (all_pairs-push F last) ∙ ap all_pairs (sym was))))

    pub laid-kept : chunk_pairs (arc_value d) ≡ chunk_pairs (arc_value last) → IsMany (record { chunks = with_item s.chunks at d; starts = s.starts; firsts = s.firsts; total = s.total; len = s.len })
    laid-kept same =
        let F = all_but_last s.chunks.items in
        laid-last s.chunks (with_item s.chunks at d) s.starts s.firsts s.total s.len s.total s.len last d F was now h k
        (omega (arith, total-last, ap total_of same)) (omega (arith, h.len, length-pushed F s.chunks.items last was, ap length same)) h.bound h.few

    module _ (x : T) (m : ℕ) (more : chunk_pairs (arc_value d) ≡ chunk_pairs (arc_value last) ++ (x, m) ∷ []) where
      pub pairs-more : all_pairs (set s.chunks.items at d) ≡ many_pairs s ++ (x, m) ∷ []
      pairs-more =
          let F = all_but_last s.chunks.items in
          let one : List (T × ℕ) = (x, m) ∷ [] in
          ap all_pairs now ∙ (all_pairs-push F d ∙ (ap (λ z. all_pairs F ++ z) more ∙ (sym (append_assoc (all_pairs F) (chunk_pairs (arc_value last)) one)
          ∙ ap (λ z. z ++ one) (sym (all_pairs-push F last) ∙ ap all_pairs (sym was)))))

      pub laid-more : s.total + m < 2 ^ 32 → IsMany (record { chunks = with_item s.chunks at d; starts = s.starts; firsts = s.firsts; total = s.total + m; len = s.len + 1 })
      laid-more r =
          let F = all_but_last s.chunks.items in
          let one : List (T × ℕ) = (x, m) ∷ [] in
          let total : s.total + m ≡ total_of (all_pairs F) + total_of (chunk_pairs (arc_value d)) = omega (arith, total-last, ap total_of more, total_of-append (chunk_pairs (arc_value last)) one) in
          let count : s.len + 1 ≡ length (all_pairs F) + length (chunk_pairs (arc_value d)) =
          omega (arith, h.len, length-pushed F s.chunks.items last was, ap length more, length-append (chunk_pairs (arc_value last)) one) in
          laid-last s.chunks (with_item s.chunks at d) s.starts s.firsts s.total s.len (s.total + m) (s.len + 1) last d F was now h k total count r
          (omega (arith, count, total, r, few-within F (arc_value d) (chunks-take s.chunks.items (length s.chunks.items - 1) h.chunks) k.counted))

-- another last item
pub some-chunks : {T : Type 0} (cs : List (Arc (Chunk (Arc T Global)) Global)) → 0 < length (values_in (all_pairs cs)) → 0 < length cs
some-chunks [] h = absurd (omega (arith, h))
some-chunks (c ∷ cs) h = omega arith

pub but-last-append : {A : Type 0} (xs ys : List A) → 0 < length ys → all_but_last (xs ++ ys) ≡ xs ++ all_but_last ys
but-last-append xs ys h =
    let n : length (xs ++ ys) - 1 ≡ length xs + (length ys - 1) = omega (arith, h, length-append xs ys) in
    ap (λ z. take z (xs ++ ys)) n ∙ take-append-add xs ys (length ys - 1)

module _ {T : Type 0} (s : Many (Arc T Global)) (last : Arc (Chunk (Arc T Global)) Global) (h : IsMany s) (some : 0 < length (many_values s)) (e : last ≡ get_or s.chunks.items (length s.chunks.items - 1) last) where
  split : s.chunks.items ≡ all_but_last s.chunks.items ++ last ∷ []
  split = split-last s.chunks.items last (some-chunks s.chunks.items some) e

  pub last-one : IsChunk (arc_value last)
  last-one = chunk-in (all_but_last s.chunks.items) s.chunks.items last split h.chunks

  pub last-size : (arc_value last).size < 2 ^ 32
  last-size = omega (arith, h.total, h.bound, total-pushed (all_but_last s.chunks.items) s.chunks.items last split, chunk-size (arc_value last) last-one.counted)

  shorter : all_but_last (many_values s) ≡ values_in (all_pairs (all_but_last s.chunks.items)) ++ all_but_last (chunk_values (arc_value last))
  shorter =
      let VF = values_in (all_pairs (all_but_last s.chunks.items)) in
      let VL = chunk_values (arc_value last) in
      ap all_but_last (values-pushed (all_but_last s.chunks.items) s.chunks.items last split)
      ∙ but-last-append VF VL (omega (arith, length-values (chunk_pairs (arc_value last)), chunk-count (arc_value last) last-one.counted, last-one.some))

  module _ (seen made : Chunk (Arc T Global)) (x : Arc T Global) (n m : ℕ) (same : seen ≡ arc_value last) (n-is : n + 1 ≡ length (arc_value last).items.items) (v : chunk_values made ≡ part 0 n (chunk_values seen)) (k : IsCounted made.items.items made.starts.items made.size) (r : total_of (all_but_last (many_values s)) + m < 2 ^ 32) where
    made-is : chunk_values made ≡ all_but_last (chunk_values (arc_value last))
    made-is =
        let at : n ≡ length (chunk_values (arc_value last)) - 1 = omega (arith, n-is, length-values (chunk_pairs (arc_value last)), chunk-count (arc_value last) last-one.counted) in
        v ∙ (ap (λ z. part 0 n (chunk_values z)) same ∙ (part-front n (chunk_values (arc_value last)) ∙ ap (λ z. take z (chunk_values (arc_value last))) at))

    pub made-room : made.size + m < 2 ^ 32
    made-room =
        let VF = values_in (all_pairs (all_but_last s.chunks.items)) in
        omega (arith, r, ap total_of shorter, total_of-append VF (all_but_last (chunk_values (arc_value last))), ap total_of made-is, chunk-size made k, total-values (chunk_pairs made))

    module _ (d : Arc (Chunk (Arc T Global)) Global) (next : Chunk (Arc T Global)) (is : arc_value d ≡ next) (g : Grown made x m next) where
      set-is : chunk_values (arc_value d) ≡ all_but_last (chunk_values (arc_value last)) ++ (arc_value x, m) ∷ []
      set-is = ap chunk_values is ∙ (ap values_in g.pairs ∙ (values-append (chunk_pairs made) ((x, m) ∷ []) ∙ ap (λ z. z ++ (arc_value x, m) ∷ []) made-is))

      pub set-chunk : length made.items.items ≡ n → IsChunk (arc_value d)
      set-chunk count =
          let P : Chunk (Arc T Global) → Type 0 = IsChunk in
          subst P (sym is) (record { counted = g.counted; some = omega (arith, g.more); most = omega (arith, g.more, count, n-is, last-one.most) })

      pub set-room : total_of (all_pairs (all_but_last s.chunks.items)) + total_of (chunk_pairs (arc_value d)) < 2 ^ 32
      set-room =
          let F = all_pairs (all_but_last s.chunks.items) in
          let L = all_but_last (chunk_values (arc_value last)) in
          omega (
            arith,
            r,
            ap total_of shorter,
            total_of-append (values_in F) L,
            total-values F,
            ap total_of set-is,
            total_of-append L ((arc_value x, m) ∷ []),
            total-values (chunk_pairs (arc_value d)),
          )

      pub set-few : IsChunk (arc_value d) → length (all_pairs (all_but_last s.chunks.items)) + length (chunk_pairs (arc_value d)) < 2 ^ 32
      set-few j = omega (arith, set-room, few-within (all_but_last s.chunks.items) (arc_value d) (chunks-take s.chunks.items (length s.chunks.items - 1) h.chunks) j.counted)

      pub set-values : (ds : List (Arc (Chunk (Arc T Global)) Global)) → ds ≡ all_but_last s.chunks.items ++ d ∷ [] → values_in (all_pairs ds) ≡ all_but_last (many_values s) ++ (arc_value x, m) ∷ []
      set-values ds f =
          let VF = values_in (all_pairs (all_but_last s.chunks.items)) in
          let L = all_but_last (chunk_values (arc_value last)) in
          let one : List (T × ℕ) = (arc_value x, m) ∷ [] in
          values-pushed (all_but_last s.chunks.items) ds d f ∙ (ap (λ z. VF ++ z) set-is ∙ (sym (append_assoc VF L one) ∙ ap (λ z. z ++ one) (sym shorter)))

-- what holds in each case holds of an error
pub on_err_of : {X E P : Type 0} (r : Result X E) → P → OnErr r P
on_err_of (Ok x) p = tt
on_err_of (Err e) p = p
