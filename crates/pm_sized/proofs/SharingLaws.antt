-- Parts that are shared as wholes, and chunks after full ones.
use Rattle.std.specs.Prelude.{◌≡◌, ℕ, ◌+◌, ◌-◌, ◌≤◌, ◌<◌, ◌^◌, List, [], ◌∷◌, ◌++◌, length, take, get_or}
use Rattle.std.specs.declared.sync.Arc.{Arc}
use Rattle.std.specs.declared.alloc.Global.{Global}
use Rattle.std.specs.declared.vec.Vec.{Vec}
use Rattle.std.specs.Arc.{arc_value}
use Rattle.std.proofs.Common.{zero, suc, refl, ap, sym, ◌∙◌, subst, arith, length-append, length-take}
use Rattle.std.proofs.lemmas.List.{append-nil, nil_from_length, get_or-take, take_all, take-take, take_more}
use Rattle.pm_sized.specs.declared.chunk.Chunk.{Chunk}
use Rattle.pm_sized.specs.declared.many.Many.{Many}
use Rattle.pm_sized.specs.declared.groups.Groups.{Groups}
use Rattle.pm_sized.specs.Pairs.{all_pairs, many_pairs, arc_values, each_pairs, parts_of, group_pairs, total_of, AreFull, IsMany, IsPart, AreParts, IsGrouped}
use Rattle.pm_sized.specs.Parts.{values_in, many_values, group_values, Lengthened}
use Rattle.pm_sized.proofs.PairLaws.{total_of-append, count-chunks}
use Rattle.pm_sized.proofs.PartLaws.{values-append, total-values}
use Rattle.pm_sized.proofs.CopyLaws.{length-shared, shared-take, shared-push, shared-at, full-shared}
use Rattle.pm_sized.proofs.GroupLaws.{each-push, part-among}

module _ {T : Type 0} where
  -- the last of full chunks is not short
  full-last : (cs : List (Arc (Chunk T) Global)) (n : ℕ) → n + 1 ≡ length cs → AreFull cs → ((c : Arc (Chunk T) Global) → c ≡ get_or cs n c → length (arc_value c).items.items < 32) → 1 ≤ 0
  full-last [] n e f h = absurd (omega (arith, e))
  full-last (c ∷ cs) zero e f h = omega (arith, f.0, h c refl)
  full-last (c ∷ cs) (suc n) e f h = full-last cs n (omega (arith, e)) f.1 h

  pub lengthened-push : (cs ds : List (Arc (Chunk T) Global)) (c : Arc (Chunk T) Global) (n : ℕ) → ds ≡ cs ++ c ∷ [] → AreFull cs → Lengthened cs ds n
  lengthened-push cs ds c n e f = record {
    by_one = omega (arith, ap length e, length-append cs (c ∷ []));
    kept = λ h _. absurd (omega (arith, full-last cs (length cs - 1) (omega (arith, h.0)) f h.1));
  }

  -- the first of them, and one more
  pub each-more : (xs : List (Arc (Many T) Global)) (i : ℕ) (x : Arc (Many T) Global) → i < length xs → x ≡ get_or xs i x → each_pairs (arc_values (take (i + 1) xs)) ≡ each_pairs (arc_values (take i xs)) ++ many_pairs (arc_value x)
  each-more xs i x l e =
      ap (λ z. each_pairs (arc_values z)) (take_more xs i x l ∙ ap (λ z. take i xs ++ z ∷ []) (sym e))
      ∙ (ap each_pairs (shared-push (take i xs) x) ∙ each-push (arc_values (take i xs)) (arc_value x))

  -- the first of them are no more than all
  pub each-within : (xs : List (Arc (Many T) Global)) (n : ℕ) → total_of (each_pairs (arc_values (take n xs))) ≤ total_of (each_pairs (arc_values xs))
  each-within xs zero = omega arith
  each-within [] (suc n) = omega arith
  each-within (x ∷ xs) (suc n) =
      let A = many_pairs (arc_value x) in
      omega (arith, each-within xs n, total_of-append A (each_pairs (arc_values (take n xs))), total_of-append A (each_pairs (arc_values xs)))

  pub part-at : (xs : List (Arc (Many T) Global)) (i : ℕ) (x : Arc (Many T) Global) → AreParts (arc_values xs) → i < length xs → x ≡ get_or xs i x → IsPart (arc_value x)
  part-at xs i x h l e =
      let P : Many T → Type 0 = IsPart in
      subst P (sym (shared-at xs i x (arc_value x) l e)) (part-among (arc_values xs) i (arc_value x) h (omega (arith, l, length-shared xs)))

  pub part-along : (m n : Many T) → n ≡ m → IsPart m → IsPart n
  part-along m n e h = let P : Many T → Type 0 = IsPart in subst P (sym e) h

  -- Groups whose parts are the first i of others.
  pub record GroupsCopied (made : Groups T) (all : List (Arc (Many T) Global)) (i : ℕ) : Type 0 where
    pub laid : IsGrouped made
    pub same : each_pairs (parts_of made) ≡ each_pairs (arc_values (take i all))

-- Groups that are copied part by part.
module _ {T : Type 0} (s : Groups T) (all : List (Arc (Many T) Global)) (h : IsGrouped s) (v : all ≡ s.parts.items) where
  pub copied-none : (made : Groups T) (rest : Many T) → IsGrouped made → group_pairs made ≡ many_pairs rest → many_pairs rest ≡ [] → GroupsCopied made all 0
  copied-none made rest k e none = record {
    laid = k;
    same = nil_from_length (each_pairs (parts_of made)) (omega (arith, length-append (each_pairs (parts_of made)) (many_pairs made.rest), ap length e, ap length none));
  }

  module _ (made : Groups T) (i : ℕ) (c d : Arc (Many T) Global) (k : GroupsCopied made all i) (a : arc_value c ≡ arc_value d) (l : i < length all) (is : d ≡ get_or all i d) where
    pub copied-part : IsPart (arc_value c)
    copied-part =
        let P : List (Arc (Many T) Global) → Type 0 = λ z. AreParts (arc_values z) in
        part-along (arc_value d) (arc_value c) a (part-at all i d (subst P (sym v) h.parts) l is)

    one-more : each_pairs (arc_values (take (i + 1) all)) ≡ each_pairs (parts_of made) ++ many_pairs (arc_value c)
    one-more =
        each-more all i d l is ∙ (ap (λ z. z ++ many_pairs (arc_value d)) (sym k.same) ∙ ap (λ z. each_pairs (parts_of made) ++ many_pairs z) (sym a))

    pub copied-room : total_of (each_pairs (parts_of made)) + total_of (many_pairs (arc_value c)) < 2 ^ 32
    copied-room =
        omega (
          arith,
          ap total_of one-more,
          total_of-append (each_pairs (parts_of made)) (many_pairs (arc_value c)),
          each-within all (i + 1),
          ap (λ z. total_of (each_pairs (arc_values z))) v,
          h.bound,
          total_of-append (each_pairs (parts_of s)) (many_pairs s.rest),
        )

    pub copied-part-more : (next : Groups T) → IsGrouped next → each_pairs (parts_of next) ≡ each_pairs (parts_of made) ++ many_pairs (arc_value c) → GroupsCopied next all (i + 1)
    copied-part-more next laid e = record { laid = laid; same = e ∙ sym one-more }

  module _ (made : Groups T) (rest : Many T) (i : ℕ) (k : GroupsCopied made all i) (l : length all ≤ i) (r : many_pairs rest ≡ many_pairs s.rest) where
    pub copied-pairs : each_pairs (parts_of made) ++ many_pairs rest ≡ group_pairs s
    copied-pairs =
        ap (λ z. each_pairs (parts_of made) ++ z) r
        ∙ ap (λ z. z ++ many_pairs s.rest) (k.same ∙ (ap (λ z. each_pairs (arc_values z)) (take_all i all l) ∙ ap (λ z. each_pairs (arc_values z)) v))

    pub copied-laid : IsMany rest → arc_values rest.chunks.items ≡ arc_values s.rest.chunks.items → IsGrouped (record { parts = made.parts; starts = made.starts; firsts = made.firsts; rest = rest })
    copied-laid m e = record {
      parts = k.laid.parts;
      starts_count = k.laid.starts_count;
      firsts_count = k.laid.firsts_count;
      starts = k.laid.starts;
      firsts = k.laid.firsts;
      rest = m;
      most = omega (arith, h.most, ap length e, length-shared rest.chunks.items, length-shared s.rest.chunks.items);
      bound = omega (arith, h.bound, ap total_of copied-pairs);
    }

-- The rest becomes a part.
module _ {T : Type 0} (s : Groups T) (copy : Many T) (p : Arc (Many T) Global) (h : IsGrouped s) (same : arc_value p ≡ copy) where
  pub closed-part : AreFull s.rest.chunks.items → 64 ≤ length s.rest.chunks.items → IsMany copy → arc_values copy.chunks.items ≡ arc_values s.rest.chunks.items → IsPart (arc_value p)
  closed-part f n k e =
      let part : IsPart copy = record {
        laid = k;
        full = full-shared copy.chunks.items s.rest.chunks.items e f;
        count = omega (arith, n, h.most, ap length e, length-shared copy.chunks.items, length-shared s.rest.chunks.items);
      } in
      part-along copy (arc_value p) same part

  pub closed-room : many_pairs copy ≡ many_pairs s.rest → total_of (each_pairs (parts_of s)) + total_of (many_pairs (arc_value p)) < 2 ^ 32
  closed-room e = omega (arith, h.bound, total_of-append (each_pairs (parts_of s)) (many_pairs s.rest), ap (λ z. total_of (many_pairs z)) same, ap total_of e)

-- The last part becomes the rest, which has no items.
none-left : {T : Type 0} (m : Many T) → IsMany m → m.len ≤ 0 → many_pairs m ≡ []
none-left m h l = nil_from_length (many_pairs m) (omega (arith, h.len, l))

parts-take : {T : Type 0} (ms : List (Many T)) (n : ℕ) → AreParts ms → AreParts (take n ms)
parts-take ms zero h = tt
parts-take [] (suc n) h = tt
parts-take (m ∷ ms) (suc n) h = (h.0, parts-take ms n h.1)

some-of : {T : Type 0} (xs : List (Arc (Many T) Global)) → 0 < length (each_pairs (arc_values xs)) → 0 < length xs
some-of [] h = absurd (omega (arith, h))
some-of (x ∷ xs) h = omega arith

pub some-parts : {T : Type 0} (s : Groups T) → IsGrouped s → 0 < length (group_pairs s) → s.rest.len ≤ 0 → 0 < length s.parts.items
some-parts s h some l =
    let none = none-left s.rest h.rest l in
    let count : 0 < length (each_pairs (parts_of s)) = omega (arith, some, ap length none, length-append (each_pairs (parts_of s)) (many_pairs s.rest)) in
    some-of s.parts.items count

module _ {T : Type 0} (s : Groups T) (n : ℕ) (x : Arc (Many T) Global) (h : IsGrouped s) (at : n + 1 ≡ length s.parts.items) (is : x ≡ get_or s.parts.items n x) where
  pub last-part : IsPart (arc_value x)
  last-part = part-at s.parts.items n x h.parts (omega (arith, at)) is

  module _ (ps : Vec (Arc (Many T) Global) Global) (rest : Many T) (none : s.rest.len ≤ 0) (e : ps.items ≡ take n s.parts.items) (r : many_pairs rest ≡ many_pairs (arc_value x)) where
    pub reopened-pairs : each_pairs (arc_values ps.items) ++ many_pairs rest ≡ group_pairs s
    reopened-pairs =
        let xs = s.parts.items in
        let A = each_pairs (arc_values (take n xs)) in
        ap (λ z. each_pairs (arc_values z) ++ many_pairs rest) e ∙ (ap (λ z. A ++ z) r ∙ (sym (each-more xs n x (omega (arith, at)) is)
        ∙ (ap (λ z. each_pairs (arc_values z)) (take_all (n + 1) xs (omega (arith, at)))
        ∙ (sym (append-nil (each_pairs (parts_of s))) ∙ ap (λ z. each_pairs (parts_of s) ++ z) (sym (none-left s.rest h.rest none))))))

    module _ (m : IsMany rest) (c : arc_values rest.chunks.items ≡ arc_values (arc_value x).chunks.items) where
      count : length rest.chunks.items ≡ 64
      count = omega (arith, last-part.count, ap length c, length-shared rest.chunks.items, length-shared (arc_value x).chunks.items)

      pub reopened-some : 0 < length (many_pairs rest)
      reopened-some = omega (arith, count, count-chunks rest.chunks.items m.chunks)

      pub reopened-laid : (ss fs : Vec ℕ Global) → ss.items ≡ take (n + 1) s.starts.items → fs.items ≡ take (n + 1) s.firsts.items → IsGrouped (record { parts = ps; starts = ss; firsts = fs; rest = rest })
      reopened-laid ss fs es ef =
          let xs = s.parts.items in
          let is-front : arc_values ps.items ≡ take n (parts_of s) = ap arc_values e ∙ shared-take n xs in
          let all : length (parts_of s) ≡ n + 1 = omega (arith, at, length-shared xs) in
          let front : length (arc_values ps.items) ≡ n = omega (arith, ap length is-front, length-take n (parts_of s), all) in
          let same : (k : ℕ) → k ≤ n → take k (parts_of s) ≡ take k (arc_values ps.items) = λ k l. sym (take-take k n (parts_of s) l) ∙ ap (λ z. take k z) (sym is-front) in
          let P : List (Many T) → Type 0 = AreParts in
          record {
            parts = subst P (sym is-front) (parts-take (parts_of s) n h.parts);
            starts_count = omega (arith, front, ap length es, length-take (n + 1) s.starts.items, h.starts_count, all);
            firsts_count = omega (arith, front, ap length ef, length-take (n + 1) s.firsts.items, h.firsts_count, all);
            starts = λ k l.
                ap (λ z. get_or z k 0) es ∙ (get_or-take (n + 1) s.starts.items k 0 (omega (arith, l, front))
                ∙ (h.starts k (omega (arith, l, front, all)) ∙ ap (λ z. total_of (each_pairs z)) (same k (omega (arith, l, front)))));
            firsts = λ k l.
                ap (λ z. get_or z k 0) ef ∙ (get_or-take (n + 1) s.firsts.items k 0 (omega (arith, l, front))
                ∙ (h.firsts k (omega (arith, l, front, all)) ∙ ap (λ z. length (each_pairs z)) (same k (omega (arith, l, front)))));
            rest = m;
            most = omega (arith, count);
            bound = omega (arith, h.bound, ap total_of reopened-pairs);
          }

-- A part more, shared, where the rest has no items.
module _ {T : Type 0} (s t : Groups (Arc T Global)) (m : Many (Arc T Global)) (p : Arc (Many (Arc T Global)) Global) (same : group_pairs t ≡ group_pairs s) (a : arc_value p ≡ m) where
  pub shared-room : total_of (group_values s) + total_of (many_values m) < 2 ^ 32 → total_of (each_pairs (parts_of t)) + total_of (many_pairs (arc_value p)) < 2 ^ 32
  shared-room r =
      omega (
        arith,
        r,
        ap total_of same,
        total-values (group_pairs s),
        total-values (many_pairs m),
        ap (λ z. total_of (many_pairs z)) a,
        total_of-append (each_pairs (parts_of t)) (many_pairs t.rest),
      )

  pub shared-values : (u : Groups (Arc T Global)) → IsGrouped t → t.rest.len ≤ 0 → each_pairs (parts_of u) ≡ each_pairs (parts_of t) ++ many_pairs (arc_value p) → u.rest.chunks.items ≡ [] → group_values u ≡ group_values s ++ many_values m
  shared-values u h l e none =
      let E = each_pairs (parts_of t) in
      let was : E ≡ group_pairs s = sym (append-nil E) ∙ (ap (λ z. E ++ z) (sym (none-left t.rest h.rest l)) ∙ same) in
      let now : group_pairs u ≡ group_pairs s ++ many_pairs m =
      ap (λ z. each_pairs (parts_of u) ++ all_pairs z) none ∙ (append-nil (each_pairs (parts_of u)) ∙ (e ∙ (ap (λ z. z ++ many_pairs (arc_value p)) was ∙ ap (λ z. group_pairs s ++ many_pairs z) a))) in
      ap values_in now ∙ values-append (group_pairs s) (many_pairs m)
