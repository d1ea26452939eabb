-- Parts of chunks, and the rest after them.
use Rattle.std.specs.Prelude.{◌≡◌, ℕ, ◌+◌, ◌*◌, ◌/◌, ◌-◌, ◌≤◌, ◌<◌, ◌^◌, List, [], ◌∷◌, ◌++◌, length, take, drop, get_or}
use Rattle.std.specs.declared.sync.Arc.{Arc}
use Rattle.std.specs.declared.alloc.Global.{Global}
use Rattle.std.specs.declared.vec.Vec.{Vec}
use Rattle.std.specs.Arc.{arc_value}
use Rattle.std.proofs.Common.{zero, suc, refl, ap, sym, ◌∙◌, subst, arith, append_assoc, length-append, inl, inr}
use Rattle.std.proofs.lemmas.Bool.{cases_lt}
use Rattle.std.proofs.lemmas.Grind.{get_or_default_zero}
use Rattle.std.proofs.lemmas.List.{append-nil, get_or_past, take_all, take_more, drop_more, take-append-drop, get_or_append_left, get_or-append-add}
use Rattle.std.proofs.lemmas.List.{take-append-le}
use Rattle.pm_sized.specs.declared.chunk.Chunk.{Chunk}
use Rattle.pm_sized.specs.declared.many.Many.{Many}
use Rattle.pm_sized.specs.declared.groups.Groups.{Groups}
use Rattle.pm_sized.specs.Pairs.{chunk_pairs, many_pairs, all_pairs, arc_values, each_pairs, parts_of, part_of, group_pairs, total_of, EachCounts, AreChunks, AreFull, IsMany, IsPart, AreParts, IsGrouped, Stands}
use Rattle.pm_sized.proofs.PairLaws.{total_of-append, counts-few}
use Rattle.pm_sized.proofs.PartLaws.{counts-append, chunks-count}
use Rattle.pm_sized.proofs.FindLaws.{stands-among, chunk-count}
use Rattle.pm_sized.proofs.CopyLaws.{shared-push}
use Rattle.pm_sized.proofs.HalfLaws.{digits-above}
use Rattle.pm_sized.specs.Bound.{digits, find_bound}
use Rattle.std.proofs.Math.Nat.{pow-suc}

module _ {T : Type 0} where
  pub each-append : (ms ns : List (Many T)) → each_pairs (ms ++ ns) ≡ each_pairs ms ++ each_pairs ns
  each-append [] ns = refl
  each-append (m ∷ ms) ns = ap (λ z. many_pairs m ++ z) (each-append ms ns) ∙ sym (append_assoc (many_pairs m) (each_pairs ms) (each_pairs ns))

  pub each-push : (ms : List (Many T)) (m : Many T) → each_pairs (ms ++ m ∷ []) ≡ each_pairs ms ++ many_pairs m
  each-push ms m = each-append ms (m ∷ []) ∙ ap (λ z. each_pairs ms ++ z) (append-nil (many_pairs m))

  pub part-among : (ms : List (Many T)) (i : ℕ) (d : Many T) → AreParts ms → i < length ms → IsPart (get_or ms i d)
  part-among [] i d h l = absurd (omega (arith, l))
  part-among (m ∷ ms) zero d h l = h.0
  part-among (m ∷ ms) (suc i) d h l = part-among ms i d h.1 (omega (arith, l))

  pub parts-push : (ms : List (Many T)) (m : Many T) → AreParts ms → IsPart m → AreParts (ms ++ m ∷ [])
  parts-push [] m h k = (k, tt)
  parts-push (n ∷ ms) m h k = (h.0, parts-push ms m h.1 k)

  pub parts-count : (ms : List (Many T)) → AreParts ms → EachCounts (each_pairs ms)
  parts-count [] h = tt
  parts-count (m ∷ ms) h = counts-append (many_pairs m) (each_pairs ms) (chunks-count m.chunks.items h.0.laid.chunks) (parts-count ms h.1)

-- the first parts, part number `at`, and those after
each-split : {T : Type 0} (ms : List (Many T)) (at : ℕ) (d : Many T) → at < length ms → each_pairs ms ≡ each_pairs (take at ms) ++ (many_pairs (get_or ms at d) ++ each_pairs (drop (at + 1) ms))
each-split ms at d l =
    let m = get_or ms at d in
    let split : ms ≡ take at ms ++ (m ∷ drop (at + 1) ms) = sym (take-append-drop at ms) ∙ ap (λ z. take at ms ++ z) (drop_more ms at d l) in
    ap each_pairs split ∙ each-append (take at ms) (m ∷ drop (at + 1) ms)

each-more : {T : Type 0} (ms : List (Many T)) (at : ℕ) (d : Many T) → at < length ms → each_pairs (take (at + 1) ms) ≡ each_pairs (take at ms) ++ many_pairs (get_or ms at d)
each-more ms at d l = ap each_pairs (take_more ms at d l) ∙ each-push (take at ms) (get_or ms at d)

-- The pairs before part number `at`, or before the rest, its own, and those after; the numbers beside it are those of the
-- pairs before.
pub record Inside {T : Type 0} (g : Groups T) (at : ℕ) (m : Many T) : Type 0 where
  pub laid : IsMany m
  pub behind : List (T × ℕ)
  pub split : group_pairs g ≡ each_pairs (take at (parts_of g)) ++ (many_pairs m ++ behind)
  pub start : get_or g.starts.items at 0 ≡ total_of (each_pairs (take at (parts_of g)))
  pub first : get_or g.firsts.items at 0 ≡ length (each_pairs (take at (parts_of g)))
  pub end : (x : ℕ) → x < total_of (group_pairs g) → (at + 1 < length g.starts.items → x < get_or g.starts.items (at + 1) 0) → x < total_of (each_pairs (take at (parts_of g))) + total_of (many_pairs m)
  pub last : (x : ℕ) → x < length (group_pairs g) → (at + 1 < length g.firsts.items → x < get_or g.firsts.items (at + 1) 0) → x < length (each_pairs (take at (parts_of g))) + length (many_pairs m)

module _ {T : Type 0} (g : Groups T) (at : ℕ) (h : IsGrouped g) where
  inside-part : at < length (parts_of g) → Inside g at (part_of g at)
  inside-part l =
      let ms = parts_of g in
      let m = part_of g at in
      let A = each_pairs (take at ms) in
      let B = many_pairs m in
      let C = each_pairs (drop (at + 1) ms) in
      let R = many_pairs g.rest in
      let more = each-more ms at g.rest l in
      record {
        laid = (part-among ms at g.rest h.parts l).laid;
        behind = C ++ R;
        split = ap (λ z. z ++ R) (each-split ms at g.rest l) ∙ (append_assoc A (B ++ C) R ∙ ap (λ z. A ++ z) (append_assoc B C R));
        start = h.starts at (omega (arith, l));
        first = h.firsts at (omega (arith, l));
        end = λ x _ next. omega (arith, next (omega (arith, l, h.starts_count)), h.starts (at + 1) (omega (arith, l)), ap total_of more, total_of-append A B);
        last = λ x _ next. omega (arith, next (omega (arith, l, h.firsts_count)), h.firsts (at + 1) (omega (arith, l)), ap length more, length-append A B);
      }

  inside-rest : at ≤ length (parts_of g) → length (parts_of g) ≤ at → Inside g at (part_of g at)
  inside-rest l k =
      let ms = parts_of g in
      let R = many_pairs g.rest in
      let m : part_of g at ≡ g.rest = get_or_past ms at g.rest k in
      let A = each_pairs (take at ms) in
      let all : A ≡ each_pairs ms = ap each_pairs (take_all at ms k) in
      let same : many_pairs (part_of g at) ≡ R = ap many_pairs m in
      let P : Many T → Type 0 = IsMany in
      record {
        laid = subst P (sym m) h.rest;
        behind = [];
        split = ap (λ z. z ++ R) (sym all) ∙ ap (λ z. A ++ z) (sym (append-nil (many_pairs (part_of g at)) ∙ same));
        start = h.starts at l;
        first = h.firsts at l;
        end = λ x b _. omega (arith, b, total_of-append (each_pairs ms) R, ap total_of all, ap total_of same);
        last = λ x b _. omega (arith, b, length-append (each_pairs ms) R, ap length all, ap length same);
      }

  pub inside : at ≤ length (parts_of g) → Inside g at (part_of g at)
  inside l = elim (cases_lt at (length (parts_of g))) [ inl b ↦ inside-part b | inr b ↦ inside-rest l b ]

-- all items count, so there are no more of them than measures
pub group-few : {T : Type 0} (g : Groups T) → IsGrouped g → length (group_pairs g) ≤ total_of (group_pairs g)
group-few g h = counts-few (group_pairs g) (counts-append (each_pairs (parts_of g)) (many_pairs g.rest) (parts-count (parts_of g) h.parts) (chunks-count g.rest.chunks.items h.rest.chunks))

-- a place inside a part, seen among all pairs
pub stands-inside : {T : Type 0} (g : Groups T) (at : ℕ) (m : Many T) (pos i s index start : ℕ) → Inside g at m → get_or g.starts.items at 0 ≤ pos → pos < total_of (each_pairs (take at (parts_of g))) + total_of (many_pairs m) → Stands (many_pairs m) (pos - get_or g.starts.items at 0) i s → index ≡ get_or g.firsts.items at 0 + i → start ≡ get_or g.starts.items at 0 + s → Stands (group_pairs g) pos index start
stands-inside {T} g at m pos i s index start a low high st index-is start-is =
    let A = each_pairs (take at (parts_of g)) in
    let B = many_pairs m in
    let P : List (T × ℕ) → Type 0 = λ z. Stands z pos index start in
    let rest = pos - get_or g.starts.items at 0 in
    let before : i < length B = elim (cases_lt i (length B)) [
      | inl b ↦ b
      | inr b ↦ absurd (omega (arith, st.reached, st.start_is, ap total_of (take_all i B b), low, high, a.start))
    ] in
    subst P (sym a.split) (stands-among A B a.behind pos rest i index start (omega (arith, low, a.start)) before (omega (arith, st.start_is, st.reached)) (st.next before) (omega (arith, index-is, a.first)) (omega (arith, start-is, a.start, st.start_is)))

-- what stands beside the rest
module _ {T : Type 0} (g : Groups T) (h : IsGrouped g) (n x : ℕ) (n-is : n ≡ length (parts_of g)) where
  pub rest-start : x ≡ get_or g.starts.items n x → x ≡ total_of (each_pairs (parts_of g))
  rest-start e =
      e ∙ (get_or_default_zero g.starts.items n x (omega (arith, n-is, h.starts_count)) ∙ (h.starts n (omega (arith, n-is)) ∙ ap (λ z. total_of (each_pairs z)) (take_all n (parts_of g) (omega (arith, n-is)))))

  pub rest-first : x ≡ get_or g.firsts.items n x → x ≡ length (each_pairs (parts_of g))
  rest-first e =
      e ∙ (get_or_default_zero g.firsts.items n x (omega (arith, n-is, h.firsts_count)) ∙ (h.firsts n (omega (arith, n-is)) ∙ ap (λ z. length (each_pairs z)) (take_all n (parts_of g) (omega (arith, n-is)))))

-- the sums of the parts and of the rest
pub group-total : {T : Type 0} (g : Groups T) → total_of (group_pairs g) ≡ total_of (each_pairs (parts_of g)) + total_of (many_pairs g.rest)
group-total g = total_of-append (each_pairs (parts_of g)) (many_pairs g.rest)

pub group-length : {T : Type 0} (g : Groups T) → length (group_pairs g) ≡ length (each_pairs (parts_of g)) + length (many_pairs g.rest)
group-length g = length-append (each_pairs (parts_of g)) (many_pairs g.rest)

-- the item with number i
pub item-inside : {T : Type 0} (g : Groups T) (at : ℕ) (m : Many T) (i j : ℕ) (x : T) → Inside g at m → i ≡ length (each_pairs (take at (parts_of g))) + j → j < length (many_pairs m) → (get_or {A = T × ℕ} (group_pairs g) i (x, 0)).0 ≡ (get_or {A = T × ℕ} (many_pairs m) j (x, 0)).0
item-inside {T} g at m i j x a e l =
    let A = each_pairs (take at (parts_of g)) in
    let B = many_pairs m in
    let d : T × ℕ = (x, 0) in
    ap (λ (z : List (T × ℕ)). (get_or {A = T × ℕ} z i d).0) a.split ∙ (ap (λ (z : ℕ). (get_or {A = T × ℕ} (A ++ (B ++ a.behind)) z d).0) e
    ∙ ap (λ (z : T × ℕ). z.0) (get_or-append-add A (B ++ a.behind) j d ∙ get_or_append_left B a.behind d j l))

-- a number that stands beside each of a list, and after the last, for those before it, and one more
numbers-more : {C : Type 0} (F : List C → ℕ) (cs : List C) (c : C) (ss : List ℕ) (t : ℕ) → length ss ≡ length cs + 1 → ((k : ℕ) → k ≤ length cs → get_or ss k 0 ≡ F (take k cs)) → t ≡ F (cs ++ c ∷ []) → (k : ℕ) → k ≤ length (cs ++ c ∷ []) → get_or (ss ++ t ∷ []) k 0 ≡ F (take k (cs ++ c ∷ []))
numbers-more F cs c ss t same h e k l =
    let n : k ≤ length cs + 1 = omega (arith, l, length-append cs (c ∷ [])) in
    elim (cases_lt k (length cs + 1)) [
      | inl b ↦
          let low : k ≤ length cs = omega (arith, b) in
          get_or_append_left ss (t ∷ []) 0 k (omega (arith, b, same)) ∙ (h k low ∙ ap F (sym (take-append-le k cs (c ∷ []) low)))
      | inr b ↦
          let at : k ≡ length ss + 0 = omega (arith, b, n, same) in
          ap (λ z. get_or (ss ++ t ∷ []) z 0) at ∙ (get_or-append-add ss (t ∷ []) 0 0 ∙ (e ∙ ap F (sym (take_all k (cs ++ c ∷ []) (omega (arith, b, length-append cs (c ∷ [])))))))
    ]

-- one part more, and no rest
pub grouped-push : {T : Type 0} (ps qs : Vec (Arc (Many T) Global) Global) (ss ts fs gs : Vec ℕ Global) (r e : Many T) (p : Arc (Many T) Global) (start first : ℕ) → qs.items ≡ ps.items ++ p ∷ [] → ts.items ≡ ss.items ++ start ∷ [] → gs.items ≡ fs.items ++ first ∷ [] → IsGrouped (record { parts = ps; starts = ss; firsts = fs; rest = r }) → IsPart (arc_value p) → IsMany e → e.chunks.items ≡ [] → start ≡ total_of (each_pairs (arc_values ps.items)) + total_of (many_pairs (arc_value p)) → first ≡ length (each_pairs (arc_values ps.items)) + length (many_pairs (arc_value p)) → start < 2 ^ 32 → IsGrouped (record { parts = qs; starts = ts; firsts = gs; rest = e })
grouped-push {T} ps qs ss ts fs gs r e p start first eq es ef h k laid none start-is first-is bound =
    let ms = arc_values ps.items in
    let m = arc_value p in
    let now : arc_values qs.items ≡ ms ++ m ∷ [] = ap arc_values eq ∙ shared-push ps.items p in
    let all : each_pairs (ms ++ m ∷ []) ≡ each_pairs ms ++ many_pairs m = each-push ms m in
    let P : List (Many T) → Type 0 = AreParts in
    let S : List ℕ → List (Many T) → Type 0 = λ z w. (i : ℕ) → i ≤ length w → get_or z i 0 ≡ total_of (each_pairs (take i w)) in
    let F : List ℕ → List (Many T) → Type 0 = λ z w. (i : ℕ) → i ≤ length w → get_or z i 0 ≡ length (each_pairs (take i w)) in
    let QS : List ℕ → Type 0 = λ z. S z (arc_values qs.items) in
    let RS : List (Many T) → Type 0 = λ w. S (ss.items ++ start ∷ []) w in
    let QF : List ℕ → Type 0 = λ z. F z (arc_values qs.items) in
    let RF : List (Many T) → Type 0 = λ w. F (fs.items ++ first ∷ []) w in
    let empty : many_pairs e ≡ [] = ap all_pairs none in
    record {
      parts = subst P (sym now) (parts-push ms m h.parts k);
      starts_count = omega (arith, h.starts_count, ap length es, length-append ss.items (start ∷ []), ap length now, length-append ms (m ∷ []));
      firsts_count = omega (arith, h.firsts_count, ap length ef, length-append fs.items (first ∷ []), ap length now, length-append ms (m ∷ []));
      starts = subst QS (sym es) (subst RS (sym now) (numbers-more (λ w. total_of (each_pairs w)) ms m ss.items start h.starts_count h.starts (start-is ∙ (sym (total_of-append (each_pairs ms) (many_pairs m)) ∙ ap total_of (sym all)))));
      firsts = subst QF (sym ef) (subst RF (sym now) (numbers-more (λ w. length (each_pairs w)) ms m fs.items first h.firsts_count h.firsts (first-is ∙ (sym (length-append (each_pairs ms) (many_pairs m)) ∙ ap length (sym all)))));
      rest = laid;
      most = omega (arith, ap length none);
      bound = omega (arith, bound, start-is, total_of-append (each_pairs (arc_values qs.items)) (many_pairs e), ap total_of empty, ap (λ z. total_of (each_pairs z)) now, ap total_of all, total_of-append (each_pairs ms) (many_pairs m));
    }

each-none : {T : Type 0} (ms : List (Many T)) → length ms ≡ 0 → each_pairs ms ≡ []
each-none [] h = refl
each-none (m ∷ ms) h = absurd (omega (arith, h))

-- a part has 2,048 items or more
whole-count : {T : Type 0} (cs : List (Arc (Chunk T) Global)) → AreChunks cs → AreFull cs → 32 * length cs ≤ length (all_pairs cs)
whole-count [] h f = omega arith
whole-count (c ∷ cs) h f =
    let v = arc_value c in
    omega (arith, f.0, chunk-count v h.0.counted, length-append (chunk_pairs v) (all_pairs cs), whole-count cs h.2 f.1)

parts-items : {T : Type 0} (ms : List (Many T)) → AreParts ms → 2048 * length ms ≤ length (each_pairs ms)
parts-items [] h = omega arith
parts-items (m ∷ ms) h =
    omega (arith, h.0.count, whole-count m.chunks.items h.0.laid.chunks h.0.full, length-append (many_pairs m) (each_pairs ms), parts-items ms h.1)

-- so many parts, and one more, are found in six steps less than 64 times as many would be
enough-steps : (n d : ℕ) → 1 ≤ n → 64 * n < 2 ^ d → (6 ≤ d) × (n + 1 ≤ 2 ^ (d - 6))
enough-steps n zero some h = absurd (omega (arith, some, h))
enough-steps n (suc zero) some h = absurd (omega (arith, some, h))
enough-steps n (suc (suc zero)) some h = absurd (omega (arith, some, h))
enough-steps n (suc (suc (suc zero))) some h = absurd (omega (arith, some, h))
enough-steps n (suc (suc (suc (suc zero)))) some h = absurd (omega (arith, some, h))
enough-steps n (suc (suc (suc (suc (suc zero))))) some h = absurd (omega (arith, some, h))
enough-steps n (suc (suc (suc (suc (suc (suc d)))))) some h =
    let p : 2 ^ suc (suc (suc (suc (suc (suc d))))) ≡ 64 * 2 ^ d = omega (
      arith,
      pow-suc 2 d,
      pow-suc 2 (suc d),
      pow-suc 2 (suc (suc d)),
      pow-suc 2 (suc (suc (suc d))),
      pow-suc 2 (suc (suc (suc (suc d)))),
      pow-suc 2 (suc (suc (suc (suc (suc d))))),
    ) in
    let e : suc (suc (suc (suc (suc (suc d))))) - 6 ≡ d = omega arith in
    (omega arith, omega (arith, h, p, ap (λ z. 2 ^ z) e))

-- the steps of both searches
pub group-steps : {T : Type 0} (g : Groups T) (at : ℕ) (m : Many T) (count before middle after : ℕ) → IsGrouped g → at ≤ length (parts_of g) → m ≡ part_of g at → count ≡ length g.starts.items → ((k : ℕ) → count ≤ 2 ^ k → middle ≤ before + k) → after ≤ middle + find_bound (length (many_pairs m)) → ((k : ℕ) → length m.chunks.items ≤ 2 ^ k → after ≤ middle + (k + 6)) → after ≤ before + find_bound (length (group_pairs g))
unfolding find_bound
group-steps g at m count before middle after h lt e count-is first bound halves =
    let ms = parts_of g in
    let c = length (group_pairs g) in
    let d = digits ((c + 31) / 32) in
    elim (cases_lt 0 (length ms)) [
      | inl b ↦
          let many : 64 * length ms < 2 ^ d = omega (arith, digits-above ((c + 31) / 32), parts-items ms h.parts, group-length g) in
          let room = enough-steps (length ms) d (omega (arith, b)) many in
          let one : middle ≤ before + (d - 6) = first (d - 6) (omega (arith, count-is, h.starts_count, room.1)) in
          let few : length m.chunks.items ≤ 2 ^ 6 = elim (cases_lt at (length ms)) [
            | inl b ↦ omega (arith, ap (λ z. length z.chunks.items) e, (part-among ms at g.rest h.parts b).count)
            | inr b ↦ omega (arith, ap (λ z. length z.chunks.items) (e ∙ get_or_past ms at g.rest b), h.most)
          ] in
          omega (arith, one, halves 6 few, room.0)
      | inr b ↦
          let none : length ms ≡ 0 = omega (arith, b) in
          let one : middle ≤ before + 0 = first 0 (omega (arith, count-is, h.starts_count, none)) in
          let rest : m ≡ g.rest = e ∙ get_or_past ms at g.rest (omega (arith, none)) in
          let same : length (many_pairs m) ≡ c = ap (λ z. length (many_pairs z)) rest ∙ ap (λ z. length (z ++ many_pairs g.rest)) (sym (each-none ms none)) in
          let two : after ≤ middle + find_bound c = subst (λ z. after ≤ middle + find_bound z) same bound in
          omega (arith, one, two)
    ]
