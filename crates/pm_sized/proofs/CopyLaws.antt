-- Many that are shared once more.
use Rattle.std.specs.Prelude.{◌≡◌, ℕ, ◌+◌, ◌≤◌, ◌<◌, List, [], ◌∷◌, ◌++◌, length, take, drop, get_or}
use Rattle.std.specs.declared.sync.Arc.{Arc}
use Rattle.std.specs.declared.alloc.Global.{Global}
use Rattle.std.specs.Arc.{arc_value}
use Rattle.std.proofs.Common.{zero, suc, refl, ap, sym, ◌∙◌, subst, arith, length-append}
use Rattle.std.proofs.lemmas.List.{nil_from_length, take_all, take_more}
use Rattle.pm_sized.specs.declared.chunk.Chunk.{Chunk}
use Rattle.pm_sized.specs.declared.many.Many.{Many}
use Rattle.pm_sized.specs.Pairs.{chunk_pairs, all_pairs, many_pairs, arc_values, total_of, IsChunk, AreFull, AreChunks, IsMany}
use Rattle.pm_sized.proofs.PairLaws.{chunk-at, chunk-split, count-chunks, total_of-append}

-- what is shared: as many as there are, the first of them, one more, and number i
module _ {A : Type 0} where
  pub length-shared : (xs : List (Arc A Global)) → length (arc_values xs) ≡ length xs
  length-shared [] = refl
  length-shared (x ∷ xs) = omega (arith, length-shared xs)

  pub shared-take : (n : ℕ) (xs : List (Arc A Global)) → arc_values (take n xs) ≡ take n (arc_values xs)
  shared-take zero xs = refl
  shared-take (suc n) [] = refl
  shared-take (suc n) (x ∷ xs) = ap (λ z. arc_value x ∷ z) (shared-take n xs)

  pub shared-push : (xs : List (Arc A Global)) (x : Arc A Global) → arc_values (xs ++ x ∷ []) ≡ arc_values xs ++ arc_value x ∷ []
  shared-push [] x = refl
  shared-push (y ∷ xs) x = ap (λ z. arc_value y ∷ z) (shared-push xs x)

  pub shared-at : (xs : List (Arc A Global)) (i : ℕ) (x : Arc A Global) (d : A) → i < length xs → x ≡ get_or xs i x → arc_value x ≡ get_or (arc_values xs) i d
  shared-at [] i x d l e = absurd (omega (arith, l))
  shared-at (y ∷ xs) zero x d l e = ap arc_value e
  shared-at (y ∷ xs) (suc i) x d l e = shared-at xs i x d (omega (arith, l)) e

-- chunks that share what the first i of others do
pub record Copied {T : Type 0} (made : Many T) (all : List (Arc (Chunk T) Global)) (i : ℕ) : Type 0 where
  pub laid : IsMany made
  pub same : arc_values made.chunks.items ≡ arc_values (take i all)

module _ {T : Type 0} where
  pub pairs-shared : (cs ds : List (Arc (Chunk T) Global)) → arc_values cs ≡ arc_values ds → all_pairs cs ≡ all_pairs ds
  pairs-shared [] [] e = refl
  pairs-shared [] (d ∷ ds) e = absurd (omega (arith, ap length e))
  pairs-shared (c ∷ cs) [] e = absurd (omega (arith, ap length e))
  pairs-shared (c ∷ cs) (d ∷ ds) e =
      let k : arc_value c ≡ arc_value d = cc in
      let r : arc_values cs ≡ arc_values ds = cc in
      ap (λ z. chunk_pairs z ++ all_pairs cs) k ∙ ap (λ z. chunk_pairs (arc_value d) ++ z) (pairs-shared cs ds r)

  pub full-shared : (cs ds : List (Arc (Chunk T) Global)) → arc_values cs ≡ arc_values ds → AreFull ds → AreFull cs
  full-shared [] ds e h = tt
  full-shared (c ∷ cs) [] e h = absurd (omega (arith, ap length e))
  full-shared (c ∷ cs) (d ∷ ds) e h =
      let k : arc_value c ≡ arc_value d = cc in
      let r : arc_values cs ≡ arc_values ds = cc in
      (omega (arith, h.0, ap (λ z. length z.items.items) k), full-shared cs ds r h.1)

  full-take : (cs : List (Arc (Chunk T) Global)) (i : ℕ) → AreChunks cs → i < length cs → AreFull (take i cs)
  full-take cs zero h l = tt
  full-take [] (suc i) h l = tt
  full-take (c ∷ cs) (suc i) h l = (h.1 (omega (arith, l)), full-take cs i h.2 (omega (arith, l)))

  pub none-in : (made : Many T) → IsMany made → many_pairs made ≡ [] → made.chunks.items ≡ []
  none-in made h e = nil_from_length made.chunks.items (omega (arith, count-chunks made.chunks.items h.chunks, ap length e))

  pub full-copied : (made : Many T) (all : List (Arc (Chunk T) Global)) (i : ℕ) → Copied made all i → AreChunks all → i < length all → AreFull made.chunks.items
  full-copied made all i k h l = full-shared made.chunks.items (take i all) k.same (full-take all i h l)

  pub pairs-copied : (made : Many T) (all : List (Arc (Chunk T) Global)) (i : ℕ) → Copied made all i → length all ≤ i → many_pairs made ≡ all_pairs all
  pairs-copied made all i k l = pairs-shared made.chunks.items (take i all) k.same ∙ ap all_pairs (take_all i all l)

  pub shared-copied : (made : Many T) (all : List (Arc (Chunk T) Global)) (i : ℕ) → Copied made all i → length all ≤ i → arc_values made.chunks.items ≡ arc_values all
  shared-copied made all i k l = k.same ∙ ap arc_values (take_all i all l)

  -- one chunk more
  pub copied-more : (made next : Many T) (all : List (Arc (Chunk T) Global)) (i : ℕ) (c d : Arc (Chunk T) Global) → Copied made all i → IsMany next → next.chunks.items ≡ made.chunks.items ++ c ∷ [] → arc_value c ≡ arc_value d → i < length all → d ≡ get_or all i d → Copied next all (i + 1)
  copied-more made next all i c d k laid e a l is = record {
    laid = laid;
    same = ap arc_values e ∙ (shared-push made.chunks.items c ∙ (ap (λ z. z ++ arc_value c ∷ []) k.same ∙ (ap (λ z. arc_values (take i all) ++ z ∷ []) a
        ∙ (sym (shared-push (take i all) d) ∙ ap arc_values (ap (λ z. take i all ++ z ∷ []) is ∙ sym (take_more all i d l))))));
  }

  -- there are no more of them than of the others
  pub room-copied : (made : Many T) (all : List (Arc (Chunk T) Global)) (i : ℕ) (c d : Arc (Chunk T) Global) → Copied made all i → arc_value c ≡ arc_value d → i < length all → d ≡ get_or all i d → total_of (many_pairs made) + total_of (chunk_pairs (arc_value c)) ≤ total_of (all_pairs all)
  room-copied made all i c d k a l is =
      let C = all_pairs (drop (i + 1) all) in
      omega (
        arith,
        ap total_of (pairs-shared made.chunks.items (take i all) k.same),
        ap (λ z. total_of (chunk_pairs z)) a,
        ap total_of (chunk-split all i d l is),
        total_of-append (all_pairs (take i all)) (chunk_pairs (arc_value d) ++ C),
        total_of-append (chunk_pairs (arc_value d)) C,
      )

  pub few-copied : (made : Many T) (all : List (Arc (Chunk T) Global)) (i : ℕ) (c d : Arc (Chunk T) Global) → Copied made all i → arc_value c ≡ arc_value d → i < length all → d ≡ get_or all i d → length (many_pairs made) + length (chunk_pairs (arc_value c)) ≤ length (all_pairs all)
  few-copied made all i c d k a l is =
      let C = all_pairs (drop (i + 1) all) in
      omega (
        arith,
        ap length (pairs-shared made.chunks.items (take i all) k.same),
        ap (λ z. length (chunk_pairs z)) a,
        ap length (chunk-split all i d l is),
        length-append (all_pairs (take i all)) (chunk_pairs (arc_value d) ++ C),
        length-append (chunk_pairs (arc_value d)) C,
      )

  pub chunk-copied : (all : List (Arc (Chunk T) Global)) (i : ℕ) (c d : Arc (Chunk T) Global) → arc_value c ≡ arc_value d → AreChunks all → i < length all → d ≡ get_or all i d → IsChunk (arc_value c)
  chunk-copied all i c d a h l is = let P : Chunk T → Type 0 = IsChunk in subst P (sym a) (chunk-at all i d h l is)
