-- Pairs in chunks.
use Rattle.std.specs.Prelude.{◌≡◌, ℕ, ◌+◌, ◌*◌, ◌-◌, ◌≤◌, ◌<◌, ◌^◌, List, [], ◌∷◌, ◌++◌, length, take, drop, get_or}
use Rattle.std.specs.declared.sync.Arc.{Arc}
use Rattle.std.specs.declared.alloc.Global.{Global}
use Rattle.std.specs.declared.vec.Vec.{Vec}
use Rattle.std.specs.Arc.{arc_value}
use Rattle.std.proofs.Common.{zero, suc, refl, ap, sym, ◌∙◌, subst, arith, append_assoc, length-append}
use Rattle.std.proofs.lemmas.List.{append-nil, nil_from_length, take_more, drop_more, take-append-drop}
use Rattle.pm_sized.specs.declared.chunk.Chunk.{Chunk}
use Rattle.pm_sized.specs.declared.many.Many.{Many}
use Rattle.pm_sized.specs.Pairs.{measures, paired, chunk_pairs, all_pairs, total_of, EachCounts, Rises, IsCounted, Grown, IsChunk, AreFull, AreChunks, many_pairs, IsBuilt, built_pairs}

-- one measure more
measures-push : (ss : List ℕ) (e m : ℕ) → measures (ss ++ e ∷ []) (e + m) ≡ measures ss e ++ m ∷ []
measures-push [] e m = let d : e + m - e ≡ m = omega arith in ap (λ z. z ∷ []) d
measures-push (s ∷ []) e m = ap (λ z. (e - s) ∷ z) (measures-push [] e m)
measures-push (s ∷ t ∷ ss) e m = ap (λ z. (t - s) ∷ z) (measures-push (t ∷ ss) e m)

pub length-measures : (ss : List ℕ) (e : ℕ) → length (measures ss e) ≡ length ss
length-measures [] e = refl
length-measures (s ∷ ss) e = omega (arith, length-measures ss e)

pub length-paired : {T : Type 0} (xs : List T) (ms : List ℕ) → length ms ≡ length xs → length (paired xs ms) ≡ length xs
length-paired [] ms h = refl
length-paired (x ∷ xs) [] h = absurd (omega (arith, h))
length-paired (x ∷ xs) (m ∷ ms) h = let k : length ms ≡ length xs = omega (arith, h) in omega (arith, length-paired xs ms k)

paired-push : {T : Type 0} (xs : List T) (ms : List ℕ) (x : T) (m : ℕ) → length ms ≡ length xs → paired (xs ++ x ∷ []) (ms ++ m ∷ []) ≡ paired xs ms ++ (x, m) ∷ []
paired-push [] [] x m h = refl
paired-push [] (n ∷ ms) x m h = absurd (omega (arith, h))
paired-push (y ∷ xs) [] x m h = absurd (omega (arith, h))
paired-push (y ∷ xs) (n ∷ ms) x m h = let k : length ms ≡ length xs = omega (arith, h) in ap (λ z. (y, n) ∷ z) (paired-push xs ms x m k)

rises-push : (ss : List ℕ) (e m : ℕ) → Rises ss e → 1 ≤ m → Rises (ss ++ e ∷ []) (e + m)
rises-push [] e m h l = (omega (arith, l), tt)
rises-push (s ∷ []) e m h l = (h.0, rises-push [] e m tt l)
rises-push (s ∷ t ∷ ss) e m h l = (h.0, rises-push (t ∷ ss) e m h.1 l)

first-push : (ss : List ℕ) (e m : ℕ) → get_or ss 0 e ≡ 0 → get_or (ss ++ e ∷ []) 0 (e + m) ≡ 0
first-push [] e m h = h
first-push (s ∷ ss) e m h = h

-- how many pairs a chunk has
pub length-chunk : {T : Type 0} (xs : List T) (ss : List ℕ) (e : ℕ) → IsCounted xs ss e → length (paired xs (measures ss e)) ≡ length xs
length-chunk xs ss e h = length-paired xs (measures ss e) (length-measures ss e ∙ h.same)

pub counted-along : {T : Type 0} (c d : Chunk T) → d ≡ c → IsCounted c.items.items c.starts.items c.size → IsCounted d.items.items d.starts.items d.size
counted-along {T} c d e h = let P : Chunk T → Type 0 = λ z. IsCounted z.items.items z.starts.items z.size in subst P (sym e) h

-- one item more at the end of a chunk
pub grown : {T : Type 0} (xs ys : Vec T Global) (ss ts : Vec ℕ Global) (e m : ℕ) (x : T) → ys.items ≡ xs.items ++ x ∷ [] → ts.items ≡ ss.items ++ e ∷ [] → IsCounted xs.items ss.items e → 1 ≤ m → Grown (record { items = xs; starts = ss; size = e }) x m (record { items = ys; starts = ts; size = e + m })
grown {T} xs ys ss ts e m x exs ess h l =
    let P : List T → Type 0 = λ z. IsCounted z ts.items (e + m) in
    let Q : List ℕ → Type 0 = λ z. IsCounted (xs.items ++ x ∷ []) z (e + m) in
    let k : IsCounted (xs.items ++ x ∷ []) (ss.items ++ e ∷ []) (e + m) = record {
      same = omega (arith, h.same, length-append ss.items (e ∷ []), length-append xs.items (x ∷ []));
      from = first-push ss.items e m h.from;
      rises = rises-push ss.items e m h.rises l;
    } in
    record {
      pairs = ap (λ z. paired z (measures ts.items (e + m))) exs ∙ (ap (λ z. paired (xs.items ++ x ∷ []) (measures z (e + m))) ess
          ∙ (ap (λ z. paired (xs.items ++ x ∷ []) z) (measures-push ss.items e m) ∙ paired-push xs.items (measures ss.items e) x m (length-measures ss.items e ∙ h.same)));
      counted = subst P (sym exs) (subst Q (sym ess) k);
      more = ap length exs ∙ (length-append xs.items (x ∷ []));
      size = refl;
    }

-- the measures of the first items of a chunk
total-rise : {T : Type 0} (xs : List T) (ss : List ℕ) (e i : ℕ) → length ss ≡ length xs → Rises ss e → i ≤ length xs → total_of (take i (paired xs (measures ss e))) + get_or ss 0 e ≡ get_or ss i e
total-rise xs ss e zero h r l = omega arith
total-rise [] ss e (suc i) h r l = absurd (omega (arith, l))
total-rise (x ∷ xs) [] e (suc i) h r l = absurd (omega (arith, h))
total-rise (x ∷ xs) (s ∷ ss) e (suc i) h r l =
    let k : length ss ≡ length xs = omega (arith, h) in
    let n : i ≤ length xs = omega (arith, l) in
    omega (arith, r.0, total-rise xs ss e i k r.1 n)

pub total-chunk : {T : Type 0} (xs : List T) (ss : List ℕ) (e i : ℕ) → IsCounted xs ss e → i ≤ length xs → total_of (take i (paired xs (measures ss e))) ≡ get_or ss i e
total-chunk xs ss e i h l = omega (arith, h.from, total-rise xs ss e i h.same h.rises l)

pub total_of-append : {T : Type 0} (ps qs : List (T × ℕ)) → total_of (ps ++ qs) ≡ total_of ps + total_of qs
total_of-append [] qs = omega arith
total_of-append (p ∷ ps) qs = omega (arith, total_of-append ps qs)

-- items that count each have no more items than measures
pub counts-few : {T : Type 0} (ps : List (T × ℕ)) → EachCounts ps → length ps ≤ total_of ps
counts-few [] h = omega arith
counts-few (p ∷ ps) h = omega (arith, h.0, counts-few ps h.1)

module _ {T : Type 0} where
  pub all_pairs-append : (cs ds : List (Arc (Chunk T) Global)) → all_pairs (cs ++ ds) ≡ all_pairs cs ++ all_pairs ds
  all_pairs-append [] ds = refl
  all_pairs-append (c ∷ cs) ds = ap (λ z. chunk_pairs (arc_value c) ++ z) (all_pairs-append cs ds) ∙ sym (append_assoc (chunk_pairs (arc_value c)) (all_pairs cs) (all_pairs ds))

  pub all_pairs-push : (cs : List (Arc (Chunk T) Global)) (c : Arc (Chunk T) Global) → all_pairs (cs ++ c ∷ []) ≡ all_pairs cs ++ chunk_pairs (arc_value c)
  all_pairs-push cs c = all_pairs-append cs (c ∷ []) ∙ ap (λ z. all_pairs cs ++ z) (append-nil (chunk_pairs (arc_value c)))

  pub chunks-push : (cs : List (Arc (Chunk T) Global)) (c : Arc (Chunk T) Global) → AreChunks cs → AreFull cs → IsChunk (arc_value c) → AreChunks (cs ++ c ∷ [])
  chunks-push [] c h f k = (k, (λ z. absurd (omega (arith, z))), tt)
  chunks-push (d ∷ cs) c h f k = (h.0, (λ _. f.0), chunks-push cs c h.2 f.1 k)

  pub full-push : (cs : List (Arc (Chunk T) Global)) (c : Arc (Chunk T) Global) → AreFull cs → 32 ≤ length (arc_value c).items.items → AreFull (cs ++ c ∷ [])
  full-push [] c f k = (k, tt)
  full-push (d ∷ cs) c f k = (f.0, full-push cs c f.1 k)

  -- chunk i
  pub chunk-at : (cs : List (Arc (Chunk T) Global)) (i : ℕ) (c : Arc (Chunk T) Global) → AreChunks cs → i < length cs → c ≡ get_or cs i c → IsChunk (arc_value c)
  chunk-at [] i c h l e = absurd (omega (arith, l))
  chunk-at (d ∷ cs) zero c h l e = let P : Arc (Chunk T) Global → Type 0 = λ z. IsChunk (arc_value z) in subst P (sym e) h.0
  chunk-at (d ∷ cs) (suc i) c h l e = chunk-at cs i c h.2 (omega (arith, l)) e

  -- how many chunks there can be
  pub count-chunks : (cs : List (Arc (Chunk T) Global)) → AreChunks cs → 32 * length cs ≤ length (all_pairs cs) + 31
  count-chunks [] h = omega arith
  count-chunks (c ∷ []) h =
      let v = arc_value c in
      omega (arith, h.0.some, length-chunk v.items.items v.starts.items v.size h.0.counted, length-append (chunk_pairs v) [])
  count-chunks (c ∷ d ∷ cs) h =
      let v = arc_value c in
      let full : 32 ≤ length v.items.items = h.1 (omega arith) in
      omega (arith, full, length-chunk v.items.items v.starts.items v.size h.0.counted, length-append (chunk_pairs v) (all_pairs (d ∷ cs)), count-chunks (d ∷ cs) h.2)

  -- the pairs before chunk i, its own, and those after
  pub chunk-split : (cs : List (Arc (Chunk T) Global)) (i : ℕ) (c : Arc (Chunk T) Global) → i < length cs → c ≡ get_or cs i c → all_pairs cs ≡ all_pairs (take i cs) ++ (chunk_pairs (arc_value c) ++ all_pairs (drop (i + 1) cs))
  chunk-split cs i c l e =
      let split : cs ≡ take i cs ++ (c ∷ drop (i + 1) cs) = sym (take-append-drop i cs) ∙ ap (λ z. take i cs ++ z) (drop_more cs i c l ∙ ap (λ z. z ∷ drop (i + 1) cs) (sym e)) in
      ap all_pairs split ∙ all_pairs-append (take i cs) (c ∷ drop (i + 1) cs)

  -- the first chunks and one more
  pub chunk-more : (cs : List (Arc (Chunk T) Global)) (i : ℕ) (c : Arc (Chunk T) Global) → i < length cs → c ≡ get_or cs i c → all_pairs (take (i + 1) cs) ≡ all_pairs (take i cs) ++ chunk_pairs (arc_value c)
  chunk-more cs i c l e = ap all_pairs (take_more cs i c l ∙ ap (λ z. take i cs ++ z ∷ []) (sym e)) ∙ all_pairs-push (take i cs) c

  pub full-along : (cs ds : List (Arc (Chunk T) Global)) → ds ≡ cs → AreFull cs → AreFull ds
  full-along cs ds e h = subst AreFull (sym e) h

  -- a chunk that grew stands after the others, and the next one is empty
  pub pairs-moved : (ds cs : List (Arc (Chunk T) Global)) (c : Arc (Chunk T) Global) (next last : Chunk T) → ds ≡ cs ++ c ∷ [] → chunk_pairs next ≡ [] → arc_value c ≡ last → all_pairs ds ++ chunk_pairs next ≡ all_pairs cs ++ chunk_pairs last
  pairs-moved ds cs c next last e none same =
      ap (λ z. all_pairs z ++ chunk_pairs next) e ∙ (ap (λ z. all_pairs (cs ++ c ∷ []) ++ z) none ∙ (append-nil (all_pairs (cs ++ c ∷ []))
      ∙ (all_pairs-push cs c ∙ ap (λ z. all_pairs cs ++ chunk_pairs z) same)))

-- Some of the items, as far as a list of them has been gone through.
pub total-front : {T : Type 0} (ps rest all : List (T × ℕ)) → ps ++ rest ≡ all → total_of ps + total_of rest ≡ total_of all
total-front ps rest all e = omega (arith, total_of-append ps rest, ap total_of e)

pub few-front : {T : Type 0} (ps rest all : List (T × ℕ)) → ps ++ rest ≡ all → EachCounts all → total_of all < 2 ^ 32 → length ps < 2 ^ 32
few-front ps rest all e h l = omega (arith, counts-few all h, l, length-append ps rest, ap length e)

counts-behind : {T : Type 0} (ps : List (T × ℕ)) (x : T × ℕ) (rest : List (T × ℕ)) → EachCounts (ps ++ x ∷ rest) → 1 ≤ x.1
counts-behind [] x rest h = h.0
counts-behind (p ∷ ps) x rest h = counts-behind ps x rest h.1

pub item-counts : {T : Type 0} (ps : List (T × ℕ)) (x : T × ℕ) (rest all : List (T × ℕ)) → ps ++ x ∷ rest ≡ all → EachCounts all → 1 ≤ x.1
item-counts ps x rest all e h = counts-behind ps x rest (subst EachCounts (sym e) h)

pub built-grown : {T : Type 0} (made : Many T) (last next : Chunk T) (x : T) (m : ℕ) → IsBuilt made last → length last.items.items < 32 → Grown last x m next → IsBuilt made next
built-grown made last next x m b l h = record { laid = b.laid; full = b.full; counted = h.counted; most = omega (arith, l, h.more) }

-- one item more was gone through
pub pairs-grown : {T : Type 0} (made : Many T) (last next : Chunk T) (x : T) (m : ℕ) (before old rest all : List (T × ℕ)) → Grown last x m next → built_pairs made last ≡ before → old ≡ (x, m) ∷ rest → before ++ old ≡ all → built_pairs made next ++ rest ≡ all
pairs-grown {T} made last next x m before old rest all h same step e =
    let p : T × ℕ = (x, m) in
    let P = many_pairs made in
    let B = chunk_pairs last in
    ap (λ z. (P ++ z) ++ rest) h.pairs ∙ (ap (λ z. z ++ rest) (sym (append_assoc P B (p ∷ []))) ∙ (append_assoc (P ++ B) (p ∷ []) rest
    ∙ (ap (λ z. z ++ p ∷ rest) same ∙ (ap (λ z. before ++ z) (sym step) ∙ e))))

-- all were gone through
pub pairs-done : {T : Type 0} (ps rest all : List (T × ℕ)) → length rest ≡ 0 → ps ++ rest ≡ all → ps ≡ all
pairs-done ps rest all none e = sym (append-nil ps) ∙ (ap (λ z. ps ++ z) (sym (nil_from_length rest none)) ∙ e)
