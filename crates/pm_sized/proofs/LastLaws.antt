-- The last chunk, and others in its place.
use Rattle.std.specs.Prelude.{◌≡◌, ℕ, ◌+◌, ◌-◌, ◌≤◌, ◌<◌, ◌^◌, List, [], ◌∷◌, ◌++◌, length, take, set, get_or}
use Rattle.std.specs.declared.sync.Arc.{Arc}
use Rattle.std.specs.declared.alloc.Global.{Global}
use Rattle.std.specs.declared.vec.Vec.{Vec}
use Rattle.std.specs.Arc.{arc_value}
use Rattle.std.proofs.Common.{zero, suc, ap, sym, ◌∙◌, subst, arith, length-append, length-take}
use Rattle.std.proofs.lemmas.List.{take_all, take_more, take-append-le, length-set}
use Rattle.std.proofs.Math.Seq.{take-suc-set}
use Rattle.pm_sized.specs.declared.chunk.Chunk.{Chunk}
use Rattle.pm_sized.specs.Pairs.{chunk_pairs, all_pairs, total_of, IsChunk, AreFull, AreChunks, IsMany}
use Rattle.pm_sized.specs.Parts.{all_but_last, values_in, chunk_values}
use Rattle.pm_sized.proofs.PairLaws.{all_pairs-push, chunks-push, full-push, total_of-append}
use Rattle.pm_sized.proofs.PartLaws.{values-append}

pub split-last : {A : Type 0} (xs : List A) (x : A) → 0 < length xs → x ≡ get_or xs (length xs - 1) x → xs ≡ all_but_last xs ++ x ∷ []
split-last xs x some e =
    let n = length xs - 1 in
    sym (take_all (n + 1) xs (omega (arith, some))) ∙ (take_more xs n x (omega (arith, some)) ∙ ap (λ z. take n xs ++ z ∷ []) (sym e))

pub set-last : {A : Type 0} (xs : List A) (n : ℕ) (y : A) → n + 1 ≡ length xs → set xs n y ≡ all_but_last xs ++ y ∷ []
set-last xs n y e =
    let m : n ≡ length xs - 1 = omega (arith, e) in
    sym (take_all (suc n) (set xs n y) (omega (arith, e, length-set xs n y))) ∙ (take-suc-set xs n y (omega (arith, e)) ∙ ap (λ z. take z xs ++ y ∷ []) m)

pub front-of : {A : Type 0} (xs : List A) (x : A) → all_but_last (xs ++ x ∷ []) ≡ xs
front-of xs x =
    let n : length (xs ++ x ∷ []) - 1 ≡ length xs = omega (arith, length-append xs (x ∷ [])) in
    ap (λ z. take z (xs ++ x ∷ [])) n ∙ (take-append-le (length xs) xs (x ∷ []) (omega arith) ∙ take_all (length xs) xs (omega arith))

module _ {T : Type 0} where
  -- those before the last one
  pub full-front : (cs : List (Arc (Chunk T) Global)) (c : Arc (Chunk T) Global) → AreChunks (cs ++ c ∷ []) → AreFull cs
  full-front [] c h = tt
  full-front (d ∷ cs) c h = (h.1 (omega (arith, length-append cs (c ∷ []))), full-front cs c h.2)

  pub chunks-front : (cs : List (Arc (Chunk T) Global)) (c : Arc (Chunk T) Global) → AreChunks (cs ++ c ∷ []) → AreChunks cs
  chunks-front [] c h = tt
  chunks-front (d ∷ cs) c h = (h.0, (λ _. h.1 (omega (arith, length-append cs (c ∷ [])))), chunks-front cs c h.2)

  pub chunks-last : (cs : List (Arc (Chunk T) Global)) (c : Arc (Chunk T) Global) → AreChunks (cs ++ c ∷ []) → IsChunk (arc_value c)
  chunks-last [] c h = h.0
  chunks-last (d ∷ cs) c h = chunks-last cs c h.2

  pub full-all : (cs ds : List (Arc (Chunk T) Global)) (c : Arc (Chunk T) Global) → ds ≡ cs ++ c ∷ [] → AreChunks ds → 32 ≤ length (arc_value c).items.items → AreFull ds
  full-all cs ds c e h k =
      let P : List (Arc (Chunk T) Global) → Type 0 = AreFull in
      subst P (sym e) (full-push cs c (full-front cs c (subst AreChunks e h)) k)

  pub full-none : (cs : List (Arc (Chunk T) Global)) → length cs ≡ 0 → AreFull cs
  full-none [] h = tt
  full-none (c ∷ cs) h = absurd (omega (arith, h))

  pub chunks-take : (cs : List (Arc (Chunk T) Global)) (n : ℕ) → AreChunks cs → AreChunks (take n cs)
  chunks-take cs zero h = tt
  chunks-take [] (suc n) h = tt
  chunks-take (c ∷ cs) (suc n) h = (h.0, (λ z. h.1 (omega (arith, z, length-take n cs))), chunks-take cs n h.2)

  -- a chunk is the last one
  pub chunk-in : (cs ds : List (Arc (Chunk T) Global)) (c : Arc (Chunk T) Global) → ds ≡ cs ++ c ∷ [] → AreChunks ds → IsChunk (arc_value c)
  chunk-in cs ds c e h = chunks-last cs c (subst AreChunks e h)

  pub full-in : (cs ds : List (Arc (Chunk T) Global)) (c : Arc (Chunk T) Global) → ds ≡ cs ++ c ∷ [] → AreChunks ds → AreFull cs
  full-in cs ds c e h = full-front cs c (subst AreChunks e h)

  pub front-in : (cs ds : List (Arc (Chunk T) Global)) (c : Arc (Chunk T) Global) → ds ≡ cs ++ c ∷ [] → AreChunks ds → AreChunks cs
  front-in cs ds c e h = chunks-front cs c (subst AreChunks e h)

  -- how many there are, and their sum
  pub length-pushed : (cs ds : List (Arc (Chunk T) Global)) (c : Arc (Chunk T) Global) → ds ≡ cs ++ c ∷ [] → length (all_pairs ds) ≡ length (all_pairs cs) + length (chunk_pairs (arc_value c))
  length-pushed cs ds c e = ap (λ z. length (all_pairs z)) e ∙ (ap length (all_pairs-push cs c) ∙ length-append (all_pairs cs) (chunk_pairs (arc_value c)))

  pub total-pushed : (cs ds : List (Arc (Chunk T) Global)) (c : Arc (Chunk T) Global) → ds ≡ cs ++ c ∷ [] → total_of (all_pairs ds) ≡ total_of (all_pairs cs) + total_of (chunk_pairs (arc_value c))
  total-pushed cs ds c e = ap (λ z. total_of (all_pairs z)) e ∙ (ap total_of (all_pairs-push cs c) ∙ total_of-append (all_pairs cs) (chunk_pairs (arc_value c)))

pub values-pushed : {T : Type 0} (cs ds : List (Arc (Chunk (Arc T Global)) Global)) (c : Arc (Chunk (Arc T Global)) Global) → ds ≡ cs ++ c ∷ [] → values_in (all_pairs ds) ≡ values_in (all_pairs cs) ++ chunk_values (arc_value c)
values-pushed cs ds c e = ap (λ z. values_in (all_pairs z)) e ∙ (ap values_in (all_pairs-push cs c) ∙ values-append (all_pairs cs) (chunk_pairs (arc_value c)))

-- another chunk in the place of the last one
pub laid-last : {T : Type 0} (cs ds : Vec (Arc (Chunk T) Global) Global) (ss fs : Vec ℕ Global) (total len size count : ℕ) (c d : Arc (Chunk T) Global) (front : List (Arc (Chunk T) Global)) → cs.items ≡ front ++ c ∷ [] → ds.items ≡ front ++ d ∷ [] → IsMany (record { chunks = cs; starts = ss; firsts = fs; total = total; len = len }) → IsChunk (arc_value d) → size ≡ total_of (all_pairs front) + total_of (chunk_pairs (arc_value d)) → count ≡ length (all_pairs front) + length (chunk_pairs (arc_value d)) → size < 2 ^ 32 → count < 2 ^ 32 → IsMany (record { chunks = ds; starts = ss; firsts = fs; total = size; len = count })
laid-last {T} cs ds ss fs total len size count c d front ec ed h k size-is count-is bound few =
    let many : length ds.items ≡ length cs.items = omega (arith, ap length ec, ap length ed, length-append front (c ∷ []), length-append front (d ∷ [])) in
    let same : (i : ℕ) → i < length ds.items → take i cs.items ≡ take i ds.items = λ i l.
    let n : i ≤ length front = omega (arith, l, ap length ed, length-append front (d ∷ [])) in
    ap (λ z. take i z) ec ∙ (take-append-le i front (c ∷ []) n ∙ (sym (take-append-le i front (d ∷ []) n) ∙ ap (λ z. take i z) (sym ed))) in
    let P : List (Arc (Chunk T) Global) → Type 0 = AreChunks in
    record {
      chunks = subst P (sym ed) (chunks-push front d (front-in front cs.items c ec h.chunks) (full-in front cs.items c ec h.chunks) k);
      starts_count = omega (arith, h.starts_count, many);
      firsts_count = omega (arith, h.firsts_count, many);
      starts = λ i l. h.starts i (omega (arith, l, many)) ∙ ap (λ z. total_of (all_pairs z)) (same i l);
      firsts = λ i l. h.firsts i (omega (arith, l, many)) ∙ ap (λ z. length (all_pairs z)) (same i l);
      total = size-is ∙ sym (total-pushed front ds.items d ed);
      len = count-is ∙ sym (length-pushed front ds.items d ed);
      bound = bound;
      few = few;
    }

-- a fact of a chunk, seen through a reference to it
pub chunk-along : {T : Type 0} (c d : Chunk T) → d ≡ c → IsChunk c → IsChunk d
chunk-along c d e h = subst IsChunk (sym e) h
