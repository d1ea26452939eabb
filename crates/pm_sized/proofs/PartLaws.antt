-- Parts of lists, and the values of shared items.
use Rattle.std.specs.Prelude.{◌≡◌, ℕ, ◌+◌, ◌-◌, ◌≤◌, ◌<◌, ◌^◌, List, [], ◌∷◌, ◌++◌, length, take, drop, get_or}
use Rattle.std.specs.declared.sync.Arc.{Arc}
use Rattle.std.specs.declared.alloc.Global.{Global}
use Rattle.std.specs.Arc.{arc_value}
use Rattle.std.proofs.Common.{zero, suc, refl, ap, sym, ◌∙◌, arith, append_assoc, length-drop, length-take}
use Rattle.std.proofs.lemmas.List.{take_all, drop_more, drop-drop, take-append-drop, take-append-le, drop-append-le}
use Rattle.std.proofs.Math.Seq.{take-add, drop-append-add}
use Rattle.pm_sized.specs.declared.chunk.Chunk.{Chunk}
use Rattle.pm_sized.specs.Pairs.{measures, paired, chunk_pairs, all_pairs, total_of, EachCounts, Rises, IsCounted, Grown, AreChunks}
use Rattle.pm_sized.specs.Parts.{part, values_in, chunk_values}
use Rattle.pm_sized.proofs.PairLaws.{total_of-append, counts-few, length-measures, length-chunk}
use Rattle.pm_sized.proofs.FindLaws.{chunk-size}

-- a part is what comes before a place in it, and what comes after
pub part-at : {A : Type 0} (f m t : ℕ) (xs : List A) → f ≤ m → m ≤ t → part f t xs ≡ part f m xs ++ part m t xs
part-at f m t xs h k =
    let n : t - f ≡ (m - f) + (t - m) = omega (arith, h, k) in
    let e : f + (m - f) ≡ m = omega (arith, h) in
    ap (λ z. take z (drop f xs)) n ∙ (take-add (m - f) (t - m) (drop f xs) ∙ ap (λ z. take (m - f) (drop f xs) ++ take (t - m) z) (drop-drop (m - f) f xs ∙ ap (λ z. drop z xs) e))

-- one item
pub part-one : {A : Type 0} (i : ℕ) (xs : List A) (x : A) → i < length xs → x ≡ get_or xs i x → part i (i + 1) xs ≡ x ∷ []
part-one i xs x h r =
    let n : (i + 1) - i ≡ 1 = omega arith in
    ap (λ z. take z (drop i xs)) n ∙ (ap (take 1) (drop_more xs i x h) ∙ ap (λ z. z ∷ []) (sym r))

pub part-more : {A : Type 0} (f i : ℕ) (xs : List A) (x : A) → f ≤ i → i < length xs → x ≡ get_or xs i x → part f (i + 1) xs ≡ part f i xs ++ x ∷ []
part-more f i xs x h l r = part-at f i (i + 1) xs h (omega arith) ∙ ap (λ z. part f i xs ++ z) (part-one i xs x l r)

pub part-none : {A : Type 0} (i : ℕ) (xs : List A) → part i i xs ≡ []
part-none i xs = let n : i - i ≡ 0 = omega arith in ap (λ z. take z (drop i xs)) n

pub part-front : {A : Type 0} (n : ℕ) (xs : List A) → part 0 n xs ≡ take n xs
part-front n xs = let e : n - 0 ≡ n = omega arith in ap (λ z. take z xs) e

pub part-all : {A : Type 0} (n : ℕ) (xs : List A) → length xs ≤ n → part 0 n xs ≡ xs
part-all n xs h = part-front n xs ∙ take_all n xs h

pub length-part : {A : Type 0} (f t : ℕ) (xs : List A) → f ≤ t → t ≤ length xs → length (part f t xs) ≡ t - f
length-part f t xs h k = omega (arith, length-take (t - f) (drop f xs), length-drop f xs, h, k)

part-inner : {A : Type 0} (ys zs : List A) (f t : ℕ) → f ≤ t → t ≤ length ys → part f t (ys ++ zs) ≡ part f t ys
part-inner ys zs f t o h =
    ap (λ z. take (t - f) z) (drop-append-le f ys zs (omega (arith, o, h))) ∙ take-append-le (t - f) (drop f ys) zs (omega (arith, h, length-drop f ys))

-- a part that lies in the middle of three lists
pub part-middle : {A : Type 0} (xs ys zs : List A) (f t : ℕ) → f ≤ t → t ≤ length ys → part (length xs + f) (length xs + t) (xs ++ (ys ++ zs)) ≡ part f t ys
part-middle xs ys zs f t o h =
    let n : (length xs + t) - (length xs + f) ≡ t - f = omega arith in
    ap (λ z. take z (drop (length xs + f) (xs ++ (ys ++ zs)))) n ∙ (ap (λ z. take (t - f) z) (drop-append-add xs (ys ++ zs) f) ∙ part-inner ys zs f t o h)

-- values, one after another
pub values-append : {T Z : Type 0} (ps qs : List (Arc T Z × ℕ)) → values_in (ps ++ qs) ≡ values_in ps ++ values_in qs
values-append [] qs = refl
values-append (p ∷ ps) qs = ap (λ z. (arc_value p.0, p.1) ∷ z) (values-append ps qs)

pub length-values : {T Z : Type 0} (ps : List (Arc T Z × ℕ)) → length (values_in ps) ≡ length ps
length-values [] = refl
length-values (p ∷ ps) = omega (arith, length-values ps)

pub total-values : {T Z : Type 0} (ps : List (Arc T Z × ℕ)) → total_of (values_in ps) ≡ total_of ps
total-values [] = refl
total-values (p ∷ ps) = omega (arith, total-values ps)

pub values-take : {T Z : Type 0} (n : ℕ) (ps : List (Arc T Z × ℕ)) → values_in (take n ps) ≡ take n (values_in ps)
values-take zero ps = refl
values-take (suc n) [] = refl
values-take (suc n) (p ∷ ps) = ap (λ z. (arc_value p.0, p.1) ∷ z) (values-take n ps)

pub values-drop : {T Z : Type 0} (n : ℕ) (ps : List (Arc T Z × ℕ)) → values_in (drop n ps) ≡ drop n (values_in ps)
values-drop zero ps = refl
values-drop (suc n) [] = refl
values-drop (suc n) (p ∷ ps) = values-drop n ps

pub values-part : {T Z : Type 0} (f t : ℕ) (ps : List (Arc T Z × ℕ)) → values_in (part f t ps) ≡ part f t (values_in ps)
values-part f t ps = values-take (t - f) (drop f ps) ∙ ap (λ z. take (t - f) z) (values-drop f ps)

-- the sum up to an item, with its measure, is no more than the sum of all
pub total-next : {T : Type 0} (f i : ℕ) (ps : List (T × ℕ)) (p : T × ℕ) → f ≤ i → i < length ps → p ≡ get_or ps i p → total_of (part f i ps) + p.1 ≤ total_of ps
total-next f i ps p h l e =
    let front : ps ≡ take f ps ++ drop f ps = sym (take-append-drop f ps) in
    let behind : drop f ps ≡ part f (i + 1) ps ++ drop ((i + 1) - f) (drop f ps) = sym (take-append-drop ((i + 1) - f) (drop f ps)) in
    omega (
      arith,
      ap total_of front,
      total_of-append (take f ps) (drop f ps),
      ap total_of behind,
      total_of-append (part f (i + 1) ps) (drop ((i + 1) - f) (drop f ps)),
      ap total_of (part-more f i ps p h l e),
      total_of-append (part f i ps) (p ∷ []),
    )

pub total-part : {T : Type 0} (f t : ℕ) (ps : List (T × ℕ)) → total_of (part f t ps) ≤ total_of ps
total-part f t ps =
    let front : ps ≡ take f ps ++ drop f ps = sym (take-append-drop f ps) in
    let behind : drop f ps ≡ part f t ps ++ drop (t - f) (drop f ps) = sym (take-append-drop (t - f) (drop f ps)) in
    omega (arith, ap total_of front, total_of-append (take f ps) (drop f ps), ap total_of behind, total_of-append (part f t ps) (drop (t - f) (drop f ps)))

-- the value of item i, with its measure
value-paired : {T Z : Type 0} (xs : List (Arc T Z)) (ms : List ℕ) (i : ℕ) (x : Arc T Z) (v : T × ℕ) → length ms ≡ length xs → i < length xs → x ≡ get_or xs i x → get_or (values_in (paired xs ms)) i v ≡ (arc_value x, (get_or {A = Arc T Z × ℕ} (paired xs ms) i (x, 0)).1)
value-paired [] ms i x v h l e = absurd (omega (arith, l))
value-paired (y ∷ xs) [] i x v h l e = absurd (omega (arith, h))
value-paired (y ∷ xs) (m ∷ ms) zero x v h l e = ap (λ z. (arc_value z, m)) (sym e)
value-paired (y ∷ xs) (m ∷ ms) (suc i) x v h l e = let k : length ms ≡ length xs = omega (arith, h) in value-paired xs ms i x v k (omega (arith, l)) e

pub chunk-value : {T : Type 0} (c : Chunk (Arc T Global)) (i : ℕ) (x : Arc T Global) (v : T × ℕ) → IsCounted c.items.items c.starts.items c.size → i < length c.items.items → x ≡ get_or c.items.items i x → get_or (chunk_values c) i v ≡ (arc_value x, (get_or {A = Arc T Global × ℕ} (chunk_pairs c) i (x, 0)).1)
chunk-value c i x v h l e = value-paired c.items.items (measures c.starts.items c.size) i x v (length-measures c.starts.items c.size ∙ h.same) l e

-- the measure of item i
measure-in : {T : Type 0} (xs : List T) (ss : List ℕ) (e i : ℕ) (x : T) → length ss ≡ length xs → i < length xs → (get_or {A = T × ℕ} (paired xs (measures ss e)) i (x, 0)).1 ≡ get_or ss (i + 1) e - get_or ss i e
measure-in [] ss e i x h l = absurd (omega (arith, l))
measure-in (y ∷ xs) [] e i x h l = absurd (omega (arith, h))
measure-in (y ∷ xs) (s ∷ ss) e zero x h l = refl
measure-in (y ∷ xs) (s ∷ ss) e (suc i) x h l =
    let k : length ss ≡ length xs = omega (arith, h) in
    let n : suc i + 1 ≡ suc (i + 1) = omega arith in
    measure-in xs ss e i x k (omega (arith, l)) ∙ ap (λ z. get_or (s ∷ ss) z e - get_or ss i e) (sym n)

pub measure-at : {T : Type 0} (c : Chunk T) (i : ℕ) (x : T) → IsCounted c.items.items c.starts.items c.size → i < length c.items.items → (get_or {A = T × ℕ} (chunk_pairs c) i (x, 0)).1 ≡ get_or c.starts.items (i + 1) c.size - get_or c.starts.items i c.size
measure-at c i x h l = measure-in c.items.items c.starts.items c.size i x h.same l

pub rises-at : (ss : List ℕ) (e i : ℕ) → Rises ss e → i < length ss → get_or ss i e < get_or ss (i + 1) e
rises-at [] e i h l = absurd (omega (arith, l))
rises-at (s ∷ ss) e zero h l = h.0
rises-at (s ∷ ss) e (suc i) h l =
    let n : suc i + 1 ≡ suc (i + 1) = omega arith in
    omega (arith, rises-at ss e i h.1 (omega (arith, l)), ap (λ z. get_or (s ∷ ss) z e) n)

-- item i of one chunk after the others of another one
module _ {T : Type 0} (old now src : Chunk (Arc T Global)) (f i m : ℕ) (item x : Arc T Global) (same : chunk_values now ≡ chunk_values old ++ part f i (chunk_values src)) (k : IsCounted src.items.items src.starts.items src.size) (h : f ≤ i) (l : i < length src.items.items) (e : x ≡ get_or src.items.items i x) (a : arc_value item ≡ arc_value x) (m-is : m ≡ (get_or {A = Arc T Global × ℕ} (chunk_pairs src) i (x, 0)).1) where
  value-is : (arc_value item, m) ≡ get_or (chunk_values src) i (arc_value item, m)
  value-is = ap (λ z. (z, m)) a ∙ (ap (λ z. (arc_value x, z)) m-is ∙ sym (chunk-value src i x (arc_value item, m) k l e))

  within : i < length (chunk_values src)
  within = omega (arith, l, length-values (chunk_pairs src), length-chunk src.items.items src.starts.items src.size k)

  pub run-grown : (new : Chunk (Arc T Global)) → Grown now item m new → chunk_values new ≡ chunk_values old ++ part f (i + 1) (chunk_values src)
  run-grown new g =
      let one : List (T × ℕ) = (arc_value item, m) ∷ [] in
      ap values_in g.pairs ∙ (values-append (chunk_pairs now) ((item, m) ∷ []) ∙ (ap (λ z. z ++ one) same ∙ (append_assoc (chunk_values old) (part f i (chunk_values src)) one
      ∙ ap (λ z. chunk_values old ++ z) (sym (part-more f i (chunk_values src) (arc_value item, m) h within value-is)))))

  pub run-room : IsCounted now.items.items now.starts.items now.size → IsCounted old.items.items old.starts.items old.size → old.size + src.size < 2 ^ 32 → now.size + m < 2 ^ 32
  run-room n o r =
      let vs = chunk_values src in
      omega (
        arith,
        r,
        chunk-size now n,
        chunk-size old o,
        chunk-size src k,
        total-values (chunk_pairs now),
        total-values (chunk_pairs old),
        total-values (chunk_pairs src),
        ap total_of same,
        total_of-append (chunk_values old) (part f i vs),
        total-next f i vs (arc_value item, m) h within value-is,
      )

-- each item counts
counts-paired : {T : Type 0} (xs : List T) (ss : List ℕ) (e : ℕ) → Rises ss e → EachCounts (paired xs (measures ss e))
counts-paired [] ss e h = tt
counts-paired (x ∷ xs) [] e h = tt
counts-paired (x ∷ xs) (s ∷ ss) e h = (omega (arith, h.0), counts-paired xs ss e h.1)

pub counts-append : {T : Type 0} (ps qs : List (T × ℕ)) → EachCounts ps → EachCounts qs → EachCounts (ps ++ qs)
counts-append [] qs h k = k
counts-append (p ∷ ps) qs h k = (h.0, counts-append ps qs h.1 k)

pub chunk-counts : {T : Type 0} (c : Chunk T) → IsCounted c.items.items c.starts.items c.size → EachCounts (chunk_pairs c)
chunk-counts c h = counts-paired c.items.items c.starts.items c.size h.rises

pub chunks-count : {T : Type 0} (cs : List (Arc (Chunk T) Global)) → AreChunks cs → EachCounts (all_pairs cs)
chunks-count [] h = tt
chunks-count (c ∷ cs) h = counts-append (chunk_pairs (arc_value c)) (all_pairs cs) (chunk-counts (arc_value c) h.0.counted) (chunks-count cs h.2)

-- so there are no more of them than measures
pub few-within : {T : Type 0} (cs : List (Arc (Chunk T) Global)) (c : Chunk T) → AreChunks cs → IsCounted c.items.items c.starts.items c.size → length (all_pairs cs) + length (chunk_pairs c) ≤ total_of (all_pairs cs) + total_of (chunk_pairs c)
few-within cs c h k = omega (arith, counts-few (all_pairs cs) (chunks-count cs h), counts-few (chunk_pairs c) (chunk-counts c k))
