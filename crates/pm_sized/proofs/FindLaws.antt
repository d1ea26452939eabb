-- Where positions stand, and how chunks lie.
use Rattle.std.specs.Prelude.{◌≡◌, ℕ, ◌+◌, ◌-◌, ◌/◌, ◌≤◌, ◌<◌, ◌^◌, List, [], ◌∷◌, ◌++◌, length, take, drop, get_or}
use Rattle.std.specs.declared.sync.Arc.{Arc}
use Rattle.std.specs.declared.alloc.Global.{Global}
use Rattle.std.specs.declared.vec.Vec.{Vec}
use Rattle.std.specs.Arc.{arc_value}
use Rattle.std.proofs.Common.{zero, suc, refl, ap, sym, ◌∙◌, subst, arith, length-append, inl, inr}
use Rattle.std.proofs.lemmas.Bool.{cases_lt}
use Rattle.std.proofs.lemmas.Grind.{get_or_default_zero}
use Rattle.std.proofs.Math.Seq.{take-append-add}
use Rattle.std.proofs.lemmas.List.{get_or_append_left, get_or-append-add, get_or_past, take_all, take-append-le}
use Rattle.pm_sized.specs.declared.chunk.Chunk.{Chunk}
use Rattle.pm_sized.specs.declared.many.Many.{Many}
use Rattle.pm_sized.specs.Pairs.{measures, paired, chunk_pairs, all_pairs, many_pairs, total_of, IsCounted, IsChunk, AreFull, AreChunks, IsMany, Stands}
use Rattle.pm_sized.specs.Bound.{digits, find_bound}
use Rattle.pm_sized.proofs.HalfLaws.{digits-above}
use Rattle.pm_sized.proofs.PairLaws.{length-measures, length-chunk, total-chunk, total_of-append, all_pairs-push, chunks-push, chunk-at, count-chunks, chunk-split, chunk-more}

-- a number that stands beside each of a list, for those before it, and one more
numbers-push : {C : Type 0} (F : List C → ℕ) (cs : List C) (c : C) (ss : List ℕ) (t : ℕ) → length ss ≡ length cs → ((k : ℕ) → k < length cs → get_or ss k 0 ≡ F (take k cs)) → t ≡ F cs → (k : ℕ) → k < length (cs ++ c ∷ []) → get_or (ss ++ t ∷ []) k 0 ≡ F (take k (cs ++ c ∷ []))
numbers-push F cs c ss t same h e k l =
    let n : k ≤ length cs = omega (arith, l, length-append cs (c ∷ [])) in
    let front = ap F (sym (take-append-le k cs (c ∷ []) n)) in
    elim (cases_lt k (length cs)) [
      | inl b ↦ get_or_append_left ss (t ∷ []) 0 k (omega (arith, b, same)) ∙ (h k b ∙ front)
      | inr b ↦
          let at : k ≡ length ss + 0 = omega (arith, b, n, same) in
          ap (λ z. get_or (ss ++ t ∷ []) z 0) at ∙ (get_or-append-add ss (t ∷ []) 0 0 ∙ (e ∙ (ap F (sym (take_all k cs b)) ∙ front)))
    ]

-- chunks with one more after
pub laid-push : {T : Type 0} (cs ds : Vec (Arc (Chunk T) Global) Global) (ss ts fs gs : Vec ℕ Global) (total len size count : ℕ) (c : Arc (Chunk T) Global) → ds.items ≡ cs.items ++ c ∷ [] → ts.items ≡ ss.items ++ total ∷ [] → gs.items ≡ fs.items ++ len ∷ [] → IsMany (record { chunks = cs; starts = ss; firsts = fs; total = total; len = len }) → AreFull cs.items → IsChunk (arc_value c) → size ≡ total_of (chunk_pairs (arc_value c)) → count ≡ length (chunk_pairs (arc_value c)) → total + size < 2 ^ 32 → len + count < 2 ^ 32 → IsMany (record { chunks = ds; starts = ts; firsts = gs; total = total + size; len = len + count })
laid-push {T} cs ds ss ts fs gs total len size count c e es ef h full k size-is count-is bound few =
    let v = chunk_pairs (arc_value c) in
    let P : List (Arc (Chunk T) Global) → Type 0 = AreChunks in
    let S : List ℕ → List (Arc (Chunk T) Global) → Type 0 = λ z w. (i : ℕ) → i < length w → get_or z i 0 ≡ total_of (all_pairs (take i w)) in
    let F : List ℕ → List (Arc (Chunk T) Global) → Type 0 = λ z w. (i : ℕ) → i < length w → get_or z i 0 ≡ length (all_pairs (take i w)) in
    record {
      chunks = subst P (sym e) (chunks-push cs.items c h.chunks full k);
      starts_count = omega (arith, ap length e, ap length es, length-append cs.items (c ∷ []), length-append ss.items (total ∷ []), h.starts_count);
      firsts_count = omega (arith, ap length e, ap length ef, length-append cs.items (c ∷ []), length-append fs.items (len ∷ []), h.firsts_count);
      starts = let Q : List ℕ → Type 0 = λ z. S z ds.items in let R : List (Arc (Chunk T) Global) → Type 0 = λ w. S (ss.items ++ total ∷ []) w in
          subst Q (sym es) (subst R (sym e) (numbers-push (λ w. total_of (all_pairs w)) cs.items c ss.items total h.starts_count h.starts h.total));
      firsts = let Q : List ℕ → Type 0 = λ z. F z ds.items in let R : List (Arc (Chunk T) Global) → Type 0 = λ w. F (fs.items ++ len ∷ []) w in
          subst Q (sym ef) (subst R (sym e) (numbers-push (λ w. length (all_pairs w)) cs.items c fs.items len h.firsts_count h.firsts h.len));
      total = omega (arith, h.total, size-is, ap (λ z. total_of (all_pairs z)) e, ap total_of (all_pairs-push cs.items c), total_of-append (all_pairs cs.items) v);
      len = omega (arith, h.len, count-is, ap (λ z. length (all_pairs z)) e, ap length (all_pairs-push cs.items c), length-append (all_pairs cs.items) v);
      bound = bound;
      few = few;
    }

-- a chunk's size and count are those of its pairs
pub chunk-size : {T : Type 0} (c : Chunk T) → IsCounted c.items.items c.starts.items c.size → c.size ≡ total_of (chunk_pairs c)
chunk-size c h =
    let n = length c.items.items in
    let all : take n (chunk_pairs c) ≡ chunk_pairs c = take_all n (chunk_pairs c) (omega (arith, length-chunk c.items.items c.starts.items c.size h)) in
    sym (get_or_past c.starts.items n c.size (omega (arith, h.same))) ∙ (sym (total-chunk c.items.items c.starts.items c.size n h (omega arith)) ∙ ap total_of all)

pub chunk-count : {T : Type 0} (c : Chunk T) → IsCounted c.items.items c.starts.items c.size → length c.items.items ≡ length (chunk_pairs c)
chunk-count c h = sym (length-chunk c.items.items c.starts.items c.size h)

-- a place among some of the pairs, seen among all
pub stands-among : {T : Type 0} (A B C : List (T × ℕ)) (pos rest i index start : ℕ) → total_of A + rest ≡ pos → i < length B → total_of (take i B) ≤ rest → rest < total_of (take (i + 1) B) → index ≡ length A + i → start ≡ total_of A + total_of (take i B) → Stands (A ++ (B ++ C)) pos index start
stands-among {T} A B C pos rest i index start e l low high at from =
    let front : (n : ℕ) → n ≤ length B → total_of (take (length A + n) (A ++ (B ++ C))) ≡ total_of A + total_of (take n B) =
    λ n h. ap total_of (take-append-add A (B ++ C) n ∙ ap (λ z. A ++ z) (take-append-le n B C h)) ∙ total_of-append A (take n B) in
    let next : index + 1 ≡ length A + (i + 1) = omega (arith, at) in
    record {
      within = omega (arith, at, l, length-append A (B ++ C), length-append B C);
      start_is = from ∙ (sym (front i (omega (arith, l))) ∙ ap (λ z. total_of (take z (A ++ (B ++ C)))) (sym at));
      reached = omega (arith, e, low, from);
      next = λ _. omega (arith, e, high, front (i + 1) (omega (arith, l)), ap (λ z. total_of (take z (A ++ (B ++ C)))) next);
    }

-- after the last item
pub stands-behind : {T : Type 0} (ps : List (T × ℕ)) (len total : ℕ) → len ≡ length ps → total ≡ total_of ps → Stands ps total len total
stands-behind ps len total e t = record {
  within = omega (arith, e);
  start_is = t ∙ ap total_of (sym (take_all len ps (omega (arith, e))));
  reached = omega arith;
  next = λ h. absurd (omega (arith, h, e));
}

-- the steps of both searches
pub both-bound : {T : Type 0} (cs : List (Arc (Chunk T) Global)) (starts : ℕ) (inner before middle after : ℕ) → AreChunks cs → starts ≡ length cs → inner ≤ 63 → ((k : ℕ) → starts ≤ 2 ^ k → middle ≤ before + k) → ((k : ℕ) → inner ≤ 2 ^ k → after ≤ middle + k) → after ≤ before + find_bound (length (all_pairs cs))
unfolding find_bound
both-bound cs starts inner before middle after h e few first second =
    let n = (length (all_pairs cs) + 31) / 32 in
    let room : length cs ≤ n = omega (arith, count-chunks cs h) in
    let one : middle ≤ before + digits n = first (digits n) (omega (arith, e, room, digits-above n)) in
    let two : after ≤ middle + 6 = second 6 (omega (arith, few)) in
    omega (arith, one, two)

pub no-steps : (before count : ℕ) → before ≤ before + find_bound count
no-steps before count = omega arith

-- The pairs before chunk `at`, its own, and those after; the numbers beside it are those of the pairs before.
pub record Around {T : Type 0} (s : Many T) (at : ℕ) (c : Arc (Chunk T) Global) : Type 0 where
  pub chunk : IsChunk (arc_value c)
  pub split : many_pairs s ≡ all_pairs (take at s.chunks.items) ++ (chunk_pairs (arc_value c) ++ all_pairs (drop (at + 1) s.chunks.items))
  pub start : get_or s.starts.items at 0 ≡ total_of (all_pairs (take at s.chunks.items))
  pub first : get_or s.firsts.items at 0 ≡ length (all_pairs (take at s.chunks.items))
  pub count : length (chunk_pairs (arc_value c)) ≡ length (arc_value c).items.items
  pub starts_count : length (arc_value c).starts.items ≡ length (arc_value c).items.items
  pub fits : length (all_pairs (take at s.chunks.items)) + length (arc_value c).items.items ≤ length (many_pairs s)
  pub first_start : get_or (arc_value c).starts.items 0 0 ≡ 0

module _ {T : Type 0} (s : Many T) (at : ℕ) (c : Arc (Chunk T) Global) (h : IsMany s) (lt : at < length s.chunks.items) (e : c ≡ get_or s.chunks.items at c) where
  pub around : Around s at c
  around =
      let cs = s.chunks.items in
      let v = arc_value c in
      let k = chunk-at cs at c h.chunks lt e in
      let split = chunk-split cs at c lt e in
      let count = length-chunk v.items.items v.starts.items v.size k.counted in
      let A = all_pairs (take at cs) in
      let B = chunk_pairs v in
      let C = all_pairs (drop (at + 1) cs) in
      record {
        chunk = k;
        split = split;
        start = h.starts at lt;
        first = h.firsts at lt;
        count = count;
        starts_count = k.counted.same;
        fits = omega (arith, ap length split, length-append A (B ++ C), length-append B C, count);
        first_start = sym (get_or_default_zero v.starts.items 0 v.size (omega (arith, k.some, k.counted.same))) ∙ k.counted.from;
      }

  -- the chunk ends after a position that is before the next chunk
  before-end : (pos : ℕ) → pos < total_of (many_pairs s) → (at + 1 < length s.starts.items → pos < get_or s.starts.items (at + 1) 0) → pos < total_of (all_pairs (take at s.chunks.items)) + total_of (chunk_pairs (arc_value c))
  before-end pos l next =
      let cs = s.chunks.items in
      let more = ap total_of (chunk-more cs at c lt e) ∙ total_of-append (all_pairs (take at cs)) (chunk_pairs (arc_value c)) in
      elim (cases_lt (at + 1) (length cs)) [
        | inl b ↦ omega (arith, next (omega (arith, b, h.starts_count)), h.starts (at + 1) b, more)
        | inr b ↦ omega (arith, l, more, ap (λ z. total_of (all_pairs z)) (take_all (at + 1) cs b))
      ]

  -- the chunk has the item of a number that is before the next chunk
  pub item-within : (i : ℕ) → i < length (many_pairs s) → (at + 1 < length s.firsts.items → i < get_or s.firsts.items (at + 1) 0) → i < length (all_pairs (take at s.chunks.items)) + length (arc_value c).items.items
  item-within i l next =
      let cs = s.chunks.items in
      let a = around in
      let more = ap length (chunk-more cs at c lt e) ∙ length-append (all_pairs (take at cs)) (chunk_pairs (arc_value c)) in
      elim (cases_lt (at + 1) (length cs)) [
        | inl b ↦ omega (arith, next (omega (arith, b, h.firsts_count)), h.firsts (at + 1) b, more, a.count)
        | inr b ↦ omega (arith, l, more, a.count, ap (λ z. length (all_pairs z)) (take_all (at + 1) cs b))
      ]

  -- the place that both searches find
  pub found-at : (pos i index start : ℕ) → pos < total_of (many_pairs s) → get_or s.starts.items at 0 ≤ pos → (at + 1 < length s.starts.items → pos < get_or s.starts.items (at + 1) 0) → i < length (arc_value c).starts.items → get_or (arc_value c).starts.items i 0 ≤ pos - get_or s.starts.items at 0 → (i + 1 < length (arc_value c).starts.items → pos - get_or s.starts.items at 0 < get_or (arc_value c).starts.items (i + 1) 0) → index ≡ get_or s.firsts.items at 0 + i → start ≡ get_or s.starts.items at 0 + get_or (arc_value c).starts.items i 0 → Stands (many_pairs s) pos index start
  found-at pos i index start l low high in-chunk inner-low inner-high index-is start-is =
      let a = around in
      let cs = s.chunks.items in
      let v = arc_value c in
      let k = a.chunk in
      let A = all_pairs (take at cs) in
      let B = chunk_pairs v in
      let C = all_pairs (drop (at + 1) cs) in
      let ss = v.starts.items in
      let here : total_of (take i B) ≡ get_or ss i 0 = total-chunk v.items.items ss v.size i k.counted (omega (arith, in-chunk, k.counted.same)) ∙ get_or_default_zero ss i v.size in-chunk in
      let after : total_of (take (i + 1) B) ≡ get_or ss (i + 1) v.size = total-chunk v.items.items ss v.size (i + 1) k.counted (omega (arith, in-chunk, k.counted.same)) in
      let behind : pos - total_of A < total_of (take (i + 1) B) = elim (cases_lt (i + 1) (length ss)) [
        | inl b ↦ omega (arith, inner-high b, a.start, after, get_or_default_zero ss (i + 1) v.size b)
        | inr b ↦ omega (arith, before-end pos l high, chunk-size v k.counted, after, get_or_past ss (i + 1) v.size b, low, a.start)
      ] in
      let P : List (T × ℕ) → Type 0 = λ z. Stands z pos index start in
      subst P (sym a.split) (stands-among A B C pos (pos - total_of A) i index start (omega (arith, low, a.start)) (omega (arith, in-chunk, a.count, a.starts_count)) (omega (arith, here, inner-low, a.start)) behind (omega (arith, index-is, a.first)) (omega (arith, start-is, a.start, here)))

paired-item : {T : Type 0} (xs : List T) (ms : List ℕ) (j : ℕ) (x : T) → length ms ≡ length xs → (get_or {A = T × ℕ} (paired xs ms) j (x, 0)).0 ≡ get_or xs j x
paired-item [] ms j x h = refl
paired-item (y ∷ xs) [] j x h = absurd (omega (arith, h))
paired-item (y ∷ xs) (m ∷ ms) zero x h = refl
paired-item (y ∷ xs) (m ∷ ms) (suc j) x h = let k : length ms ≡ length xs = omega (arith, h) in paired-item xs ms j x k

-- the item with number i
pub item-at : {T : Type 0} (s : Many T) (at : ℕ) (c : Arc (Chunk T) Global) (i j : ℕ) (x : T) → Around s at c → i ≡ length (all_pairs (take at s.chunks.items)) + j → j < length (arc_value c).items.items → (get_or {A = T × ℕ} (many_pairs s) i (x, 0)).0 ≡ get_or (arc_value c).items.items j x
item-at {T} s at c i j x a e l =
    let v = arc_value c in
    let A = all_pairs (take at s.chunks.items) in
    let B = chunk_pairs v in
    let C = all_pairs (drop (at + 1) s.chunks.items) in
    let d : T × ℕ = (x, 0) in
    ap (λ (z : List (T × ℕ)). (get_or {A = T × ℕ} z i d).0) a.split ∙ (ap (λ (z : ℕ). (get_or {A = T × ℕ} (A ++ (B ++ C)) z d).0) e
    ∙ (ap (λ (z : T × ℕ). z.0) (get_or-append-add A (B ++ C) j d ∙ get_or_append_left B C d j (omega (arith, l, a.count)))
    ∙ paired-item v.items.items (measures v.starts.items v.size) j x (length-measures v.starts.items v.size ∙ a.chunk.counted.same)))

-- and its measure
pub measure-among : {T : Type 0} (s : Many T) (at : ℕ) (c : Arc (Chunk T) Global) (i j : ℕ) (x : T) → Around s at c → i ≡ length (all_pairs (take at s.chunks.items)) + j → j < length (arc_value c).items.items → (get_or {A = T × ℕ} (many_pairs s) i (x, 0)).1 ≡ (get_or {A = T × ℕ} (chunk_pairs (arc_value c)) j (x, 0)).1
measure-among {T} s at c i j x a e l =
    let v = arc_value c in
    let A = all_pairs (take at s.chunks.items) in
    let B = chunk_pairs v in
    let C = all_pairs (drop (at + 1) s.chunks.items) in
    let d : T × ℕ = (x, 0) in
    ap (λ (z : List (T × ℕ)). (get_or {A = T × ℕ} z i d).1) a.split ∙ (ap (λ (z : ℕ). (get_or {A = T × ℕ} (A ++ (B ++ C)) z d).1) e
    ∙ ap (λ (z : T × ℕ). z.1) (get_or-append-add A (B ++ C) j d ∙ get_or_append_left B C d j (omega (arith, l, a.count))))
